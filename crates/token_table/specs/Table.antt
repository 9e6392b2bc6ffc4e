-- The token table: what an entry holds, and the rules' tokens in a table of such entries and its contents.
use Rattle.std.specs.Prelude.{ℕ, ◌+◌, ◌≤◌, ◌≡◌, Result, Ok, Err, Bool, true, false, cond, List, [], ◌∷◌, map, leb, ltb, eqb, get_or, take, drop}
use Rattle.laws.specs.Cases.{Always}
use Rattle.rules.specs.Groups.{alternate, unit_after}
use Rattle.rules.specs.Refusals.{Res, ok, bad}
use Rattle.rules.specs.Tokens.{Token, at, Lex, word, str, sep, Sep, ampamp_, ampamp, amp_, amp, plusplus, dash, comma, colon, equals, semi, sep_code}
use Rattle.rules.specs.declared.Refusal.{Refusal}
use Rattle.rules.specs.Reasons.{refusal}
use Rattle.token_table.specs.declared.Kind.{Kind}
use Rattle.token_table.specs.declared.Kind.TheVariants.{AmpAmpDash, AmpAmp, AmpDash, Amp, PlusPlus, Dash, Comma, Colon, Equals, Semicolon, Word, String}
use Rattle.token_table.specs.declared.Token.{Token as Entry}

-- ---- a token's parts, its kind by its number: a separator's as `sep_code` has it, then a word's, then a string's

abbrev pub number : Kind → ℕ
number AmpAmpDash = 0
number AmpAmp = 1
number AmpDash = 2
number Amp = 3
number PlusPlus = 4
number Dash = 5
number Comma = 6
number Colon = 7
number Equals = 8
number Semicolon = 9
number Word = 10
number String = 11

abbrev pub kind_in : Entry → ℕ
kind_in t = number (Entry.kind t)

abbrev pub place_in : Entry → ℕ
place_in t = Entry.place t

abbrev pub from_in : Entry → ℕ
from_in t = Entry.start t

abbrev pub size_in : Entry → ℕ
size_in t = Entry.len t

-- ---- the token of the rules that an entry of the table says

-- the separators in the order of `sep_code`
abbrev pub seps : List Sep
seps = ampamp_ ∷ ampamp ∷ amp_ ∷ amp ∷ plusplus ∷ dash ∷ comma ∷ colon ∷ equals ∷ semi ∷ []

abbrev pub sep_of : ℕ → Sep
sep_of k = get_or seps k amp

-- kinds: the separators, then a word, then a string
abbrev pub word_kind : ℕ
word_kind = 10

abbrev pub string_kind : ℕ
string_kind = 11

unfoldable pub lex_of_kind : ℕ → List ℕ → Lex
lex_of_kind k w = cond (ltb k word_kind) (sep (sep_of k)) (cond (eqb k word_kind) (word w) (str w))

unfoldable pub content_in : List ℕ → Entry → List ℕ
content_in cs t = take (size_in t) (drop (from_in t) cs)

abbrev pub token_in : List ℕ → Entry → Token
token_in cs t = at (place_in t) (lex_of_kind (kind_in t) (content_in cs t))

-- the tokens of a table, or of a part of it
abbrev pub tokens_in : List ℕ → List Entry → List Token
tokens_in cs ts = map (token_in cs) ts

-- every content ends at or before m
abbrev pub Within : ℕ → List Entry → Type 0
Within m [] = Always
Within m (t ∷ ts) = (from_in t + size_in t ≤ m) × Within m ts

-- start and end of a content, kept inside contents of n bytes
abbrev pub start_in : Entry → ℕ → ℕ
start_in t n = cond (ltb (from_in t) n) (from_in t) n

abbrev pub end_in : Entry → ℕ → ℕ
end_in t n = cond (ltb (from_in t + size_in t) n) (from_in t + size_in t) n

-- ---- alternation

-- nothing wrong, or a refusal
abbrev pub Verdict : Type 0
Verdict = Result (Unit {0}) Refusal

-- what a result is refused with, if it is
abbrev pub verdict : {A : Type 0} → Res A → Verdict
verdict (ok a) = Ok tt
verdict (bad n p) = Err (refusal n p)

-- a unit where one is wanted, else a joining separator
abbrev pub fits_kind : Bool → ℕ → Bool
fits_kind true k = leb word_kind k
fits_kind false k = leb k (sep_code dash)

-- whatever the contents are, the answer is the rule's verdict
abbrev pub Alternates : List Entry → ℕ → Verdict → Type 0
Alternates ts e r = (cs : List ℕ) → r ≡ verdict (alternate (unit_after amp 0) (tokens_in cs ts) e)
