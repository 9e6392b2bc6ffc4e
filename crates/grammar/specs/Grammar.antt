-- The command language as a grammar: which texts are commands, and of which tree. Relations only: no order of reading, no place, no refusal.
-- From `rules` come the tree with its counts and pieces (`Commands`), the classes of characters (`Characters`), the separators, tokens and `word_most` (`Tokens`), the
-- separators' texts (`Printing`), bases, units and the tests of rules 1 to 4 (`Units`), and the limits (`Refusals`); `proofs/Exact` shows that the reader accepts exactly this.
use Rattle.std.specs.Prelude.{ℕ, ◌+◌, ◌*◌, ◌≤◌, ◌≡◌, Bool, true, false, ◌&&◌, ◌||◌, List, [], ◌∷◌, ◌++◌, map, eqb, length}
use Rattle.laws.specs.Lists.{all, any, is_nil}
use Rattle.rules.specs.Refusals.{most_letters, most_text, most_string, more_of_code, more_of_name, most_blocks, most_places, most_leading, most_elements, most_arguments, most_orders, most_value, most_fraction}
use Rattle.rules.specs.Characters.{byte, capital, is_effector, is_permitted, is_word_char}
use Rattle.rules.specs.Tokens.{Sep, ampamp_, ampamp, amp_, amp, plusplus, dash, comma, colon, equals, semi, Lex, word, str, sep, word_most}
use Rattle.rules.specs.Units.{Radix, r_d, Base, plain, keys, size, letter, Unit, num, keyed, identifier, symbolic, text, digit_value, is_digit_of, is_key, run_of, is_identifier, is_symbolic_name, allowed}
use Rattle.rules.specs.Commands.{Element, single, range, Place, place, Block, block, Command, command, place_base, place_name, all_places, value_count, place_count, mult, is_piece}
use Rattle.rules.specs.Printing.{sep_text}

abbrev pub Text : Type 0
Text = List ℕ

-- ======== 1. the text spells tokens ("Characters and tokens"; Z.314 3 and 4)

-- what is seen of a text: a byte outside strings and comments, a comment, a string with its content
pub data Mark : Type 0 where
  char : ℕ → Mark
  remark : Mark
  quoted : Text → Mark

abbrev pub begins : ℕ → Text → Bool
begins c [] = false
begins c (d ∷ t) = eqb d c

-- "A comment runs from adjacent `/*` to the first `*/` after those two bytes.": the text behind `/*`, the text behind `*/`
pub data Comment : Text → Text → Type 0 where
  close : {t : Text} → Comment (byte "*" ∷ byte "/" ∷ t) t
  inside : {c : ℕ} {t u : Text} → eqb c (byte "*") && begins (byte "/") t ≡ false → Comment t u → Comment (c ∷ t) u

-- "A string runs between quotation marks. A mark inside is two adjacent marks. The record holds each such pair once and all other bytes as typed.
-- It may be empty.": the text behind the first mark, the content, the text behind the last
pub data Quoted : Text → Text → Text → Type 0 where
  close : {t : Text} → begins (byte "\"") t ≡ false → Quoted (byte "\"" ∷ t) [] t
  mark : {t w u : Text} → Quoted t w u → Quoted (byte "\"" ∷ byte "\"" ∷ t) (byte "\"" ∷ w) u
  inside : {c : ℕ} {t w u : Text} → eqb c (byte "\"") ≡ false → Quoted t w u → Quoted (c ∷ t) (c ∷ w) u

-- "letters, digits and `# % + . ' *`"
abbrev pub in_words : ℕ → Bool
in_words c = is_word_char c || eqb c (byte "+")

-- the bytes that words and separators are made of; all others "stand only in strings and comments"
abbrev pub is_plain : ℕ → Bool
is_plain c = in_words c || any (eqb c) (byte "&" ∷ byte "-" ∷ byte "," ∷ byte ":" ∷ byte "=" ∷ byte ";" ∷ [])

-- "Outside strings and comments a format effector is nothing, even inside a word or separator"
pub data Shows : Text → List Mark → Type 0 where
  done : Shows [] []
  effector : {c : ℕ} {t : Text} {ms : List Mark} → is_effector c ≡ true → Shows t ms → Shows (c ∷ t) ms
  visible : {c : ℕ} {t : Text} {ms : List Mark} → is_plain c ≡ true → Shows t ms → Shows (c ∷ t) (char c ∷ ms)
  comment : {t u : Text} {ms : List Mark} → Comment t u → Shows u ms → Shows (byte "/" ∷ byte "*" ∷ t) (remark ∷ ms)
  string : {t w u : Text} {ms : List Mark} → Quoted t w u → Shows u ms → Shows (byte "\"" ∷ t) (quoted w ∷ ms)

abbrev pub next_is : (ℕ → Bool) → List Mark → Bool
next_is f [] = false
next_is f (char c ∷ ms) = f c
next_is f (remark ∷ ms) = false
next_is f (quoted w ∷ ms) = false

-- "Separators, longest first": what follows would make it a longer one
abbrev pub longer : Sep → List Mark → Bool
longer ampamp_ ms = false
longer ampamp ms = next_is (λ c. eqb c (byte "-")) ms
longer amp_ ms = false
longer amp ms = next_is (λ c. eqb c (byte "&") || eqb c (byte "-")) ms
longer plusplus ms = false
longer dash ms = false
longer comma ms = false
longer colon ms = false
longer equals ms = false
longer semi ms = false

-- `++` stands in it
abbrev pub double : Text → Bool
double [] = false
double (c ∷ w) = eqb c (byte "+") && begins (byte "+") w || double w

-- "A word is a longest run .., but the first `++` met from the left ends it and is a separator."
pub data Ends (w : Text) : List Mark → Type 0 where
  other : {ms : List Mark} → next_is in_words ms ≡ false → Ends w ms
  plus : {ms : List Mark} → double (w ++ (byte "+" ∷ [])) ≡ false → Ends w (char (byte "+") ∷ char (byte "+") ∷ ms)

-- A comment "ends the token before it and adds nothing": no separator and no word goes over a `remark`.
-- "word over 32 bytes (34 if its second is `'`)", "string content over 80" are none
pub data Tokens : List Mark → List Lex → Type 0 where
  done : Tokens [] []
  comment : {ms : List Mark} {xs : List Lex} → Tokens ms xs → Tokens (remark ∷ ms) xs
  string : {w : Text} {ms : List Mark} {xs : List Lex} → length w ≤ most_string → Tokens ms xs → Tokens (quoted w ∷ ms) (str w ∷ xs)
  separator : (s : Sep) {ms : List Mark} {xs : List Lex} → longer s ms ≡ false → Tokens ms xs → Tokens (map char (sep_text s) ++ ms) (sep s ∷ xs)
  letters : (w : Text) {ms : List Mark} {xs : List Lex} → run_of in_words w ≡ true → double w ≡ false → length w ≤ word_most w → Ends w ms
      → Tokens ms xs → Tokens (map char w ++ ms) (word w ∷ xs)

-- "over 1,024 bytes" is no command; "Permitted bytes: 9 to 13 (format effectors) and 32 to 126."
pub record Spells (t : Text) (xs : List Lex) : Type 0 where
  pub few : length t ≤ most_text
  pub permitted : all is_permitted t ≡ true
  pub marks : List Mark
  pub seen : Shows t marks
  pub cut : Tokens marks xs

-- ======== 2. the tokens are a command

-- ---- units ("Units, by default base"; Z.314 4.2 to 4.5)

-- the number that digits of a base write, the highest first; "Leading zeros go"
pub data Writes (r : Radix) : Text → ℕ → Type 0 where
  digit : {c : ℕ} → is_digit_of r c ≡ true → Writes r (c ∷ []) (digit_value c)
  digits : {w : Text} {v : ℕ} (c : ℕ) → Writes r w v → is_digit_of r c ≡ true → Writes r (w ++ (c ∷ [])) (v * size r + digit_value c)

-- a numeral's characters after its prefix: "values to 4,294,967,295 and at most 9 fraction digits"; "A decimal numeral may have one full stop with a
-- digit on each side. It is held as the whole number without the stop and the count of fraction digits"; "Keyed numerals keep all their characters"; M-109: "records
-- hold capitals"
pub data Numeral : Base → Text → Unit → Type 0 where
  whole : {r : Radix} {w : Text} {v : ℕ} → Writes r w v → v ≤ most_value → Numeral (plain r) w (num r 0 v)
  stopped : (a d : Text) {v : ℕ} → is_nil a ≡ false → is_nil d ≡ false → Writes r_d (a ++ d) v → v ≤ most_value → length d ≤ most_fraction
      → Numeral (plain r_d) (a ++ (byte "." ∷ d)) (num r_d (length d) v)
  dialled : {w : Text} → run_of is_key w ≡ true → Numeral keys w (keyed (map capital w))

-- all its characters are digits of the base
abbrev pub digits_of : Base → Text → Bool
digits_of (plain r) w = run_of (is_digit_of r) w
digits_of keys w = run_of is_key w

-- a unit under its place's base, rules 1 to 4 and a string; "Under default K only K is allowed."; M-109: "a base prefix .. may be small"
pub data UnitOf (b : Base) : Lex → Unit → Type 0 where
  prefixed : {a : Base} {c : ℕ} {w : Text} {i : Unit} → capital c ≡ letter a → allowed b a ≡ true → Numeral a w i → UnitOf b (word (c ∷ byte "'" ∷ w)) i
  bare : {w : Text} {i : Unit} → Numeral b w i → UnitOf b (word w) i
  as_identifier : {w : Text} → digits_of b w ≡ false → is_identifier w ≡ true → UnitOf b (word w) (identifier w)
  as_symbolic : {w : Text} → digits_of b w ≡ false → is_identifier w ≡ false → is_symbolic_name w ≡ true → UnitOf b (word w) (symbolic w)
  string : {w : Text} → UnitOf b (str w) (text w)

-- ---- values ("Groups"; Z.315 2.9.2)

-- "Simple argument: one unit. Compound: 2 to 4 units joined by `-`.": its leading units and its last one
pub data Argument (b : Base) : List Lex → List Unit → Unit → Type 0 where
  last : {x : Lex} {u : Unit} → UnitOf b x u → Argument b (x ∷ []) [] u
  joined : {x : Lex} {i u : Unit} {xs : List Lex} {l : List Unit} → UnitOf b x i → Argument b xs l u → Argument b (x ∷ sep dash ∷ xs) (i ∷ l) u

-- "`&&` (simple) or `&&-` (compound)"
abbrev pub through : List Unit → Sep
through [] = ampamp
through (i ∷ l) = ampamp_

-- what follows an element's argument: nothing; or the argument's last unit is the lower end, and "the upper last unit, then perhaps `++` and an
-- increment" follow: "numerals of one base without fraction; increment at least 1, upper not below lower"
pub data Ending (b : Base) (l : List Unit) : Unit → List Lex → Element → Type 0 where
  alone : {u : Unit} → Ending b l u [] (single l u)
  up_to : {x : Lex} {r : Radix} {lo up : ℕ} → UnitOf b x (num r 0 up) → lo ≤ up
      → Ending b l (num r 0 lo) (sep (through l) ∷ x ∷ []) (range l r lo up 1)
  up_by : {x y : Lex} {r : Radix} {lo up inc : ℕ} → UnitOf b x (num r 0 up) → lo ≤ up → UnitOf b y (num r 0 inc) → 1 ≤ inc
      → Ending b l (num r 0 lo) (sep (through l) ∷ x ∷ sep plusplus ∷ y ∷ []) (range l r lo up inc)

-- the elements behind one with leading units l: in full after `&`, with "the same number of units"; or "After `&-`, allowed only among compound
-- arguments, only the last unit stands; the leading units are those of the element before."
pub data More (b : Base) : List Unit → List Lex → List Element → Type 0 where
  done : {l : List Unit} → More b l [] []
  full : {l m : List Unit} {u : Unit} {e : Element} {xs ys zs : List Lex} {es : List Element}
      → Argument b xs m u → length m ≡ length l → Ending b m u ys e → More b m zs es → More b l (sep amp ∷ (xs ++ (ys ++ zs))) (e ∷ es)
  short : {i : Unit} {l : List Unit} {x : Lex} {u : Unit} {e : Element} {ys zs : List Lex} {es : List Element}
      → UnitOf b x u → Ending b (i ∷ l) u ys e → More b (i ∷ l) zs es → More b (i ∷ l) (sep amp_ ∷ x ∷ (ys ++ zs)) (e ∷ es)

-- "A value is elements joined by `&` or `&-`."; at most 4 units, 64 elements, 4,096 arguments
pub data Value (b : Base) : List Lex → List Element → Type 0 where
  value : {l : List Unit} {u : Unit} {e : Element} {xs ys zs : List Lex} {es : List Element}
      → Argument b xs l u → length l ≤ most_leading → Ending b l u ys e → More b l zs es
      → length (e ∷ es) ≤ most_elements → value_count (e ∷ es) ≤ most_arguments → Value b (xs ++ (ys ++ zs)) (e ∷ es)

-- ---- places, blocks, command ("Command, block, place"; Z.315 2.3 and 2.4)

-- pieces behind the first, each behind a `-`, that pass the test
pub data Rest (ok : Text → Bool) : List Lex → List Text → Type 0 where
  done : Rest ok [] []
  piece : {w : Text} {xs : List Lex} {ws : List Text} → ok w ≡ true → Rest ok xs ws → Rest ok (sep dash ∷ word w ∷ xs) (w ∷ ws)

-- an identifier, then at most so many pieces that pass the test
pub data Pieces (ok : Text → Bool) (more : ℕ) : List Lex → List Text → Type 0 where
  pieces : {w : Text} {xs : List Lex} {ws : List Text} → is_identifier w ≡ true → Rest ok xs ws → length ws ≤ more → Pieces ok more (word w ∷ xs) (w ∷ ws)

-- a place of a block of the kind (true: named). "Nothing after `:` is one omitted place."; "A place is named if it has `=`."; "A name is 1 to 4 pieces
-- joined by `-`: an identifier, then identifiers or index numbers"; "an omitted place isn't named"
pub data PlaceOf : Bool → List Lex → Place → Type 0 where
  omitted : {b : Base} → PlaceOf false [] (place b [] [])
  position : {b : Base} {xs : List Lex} {v : List Element} → Value b xs v → PlaceOf false xs (place b [] v)
  named : {b : Base} {ns : List Lex} {nm : List Text} {xs : List Lex} {v : List Element}
      → Pieces is_piece more_of_name ns nm → Value b xs v → PlaceOf true (ns ++ (sep equals ∷ xs)) (place b nm v)

-- "Places in a block are parted by `,`."; "all its places must agree"
pub data Places (k : Bool) : List Lex → List Place → Type 0 where
  last : {xs : List Lex} {p : Place} → PlaceOf k xs p → Places k xs (p ∷ [])
  next : {xs ys : List Lex} {p : Place} {ps : List Place} → PlaceOf k xs p → Places k ys ps → Places k (xs ++ (sep comma ∷ ys)) (p ∷ ps)

-- M-102: "a name that already stands in its block, all pieces equal byte for byte. In another block it is fine.": the name is none of these
pub data Unlike (nm : List Text) : List (List Text) → Type 0 where
  none : Unlike nm []
  other : {m : List Text} {ms : List (List Text)} → (nm ≡ m → ⊥) → Unlike nm ms → Unlike nm (m ∷ ms)

pub data NamesDiffer : List (List Text) → Type 0 where
  none : NamesDiffer []
  more : {nm : List Text} {ms : List (List Text)} → Unlike nm ms → NamesDiffer ms → NamesDiffer (nm ∷ ms)

-- "Then each `:` starts a block"
pub data Blocks : List Lex → List Block → Type 0 where
  done : Blocks [] []
  next : {k : Bool} {xs ys : List Lex} {ps : List Place} {bs : List Block}
      → Places k xs ps → (k ≡ true → NamesDiffer (map place_name ps)) → Blocks ys bs → Blocks (sep colon ∷ (xs ++ ys)) (block k ps ∷ bs)

-- "The n-th letter is the default base of the n-th place, counted through all blocks, omitted places included. Places past the list's end have D."
pub data Under : List Base → List Base → Type 0 where
  done : {bs : List Base} → Under bs []
  given : {b : Base} {bs qs : List Base} → Under bs qs → Under (b ∷ bs) (b ∷ qs)
  past : {qs : List Base} → Under [] qs → Under [] (plain r_d ∷ qs)

-- "Code: 1 to 3 identifiers joined by `-`. Then each `:` starts a block, and `;` ends."; at most 8 blocks, 32 places, 65,535 orders
pub data Derives (bases : List Base) : List Lex → Command → Type 0 where
  derives : {xs ys : List Lex} {c : List Text} {bs : List Block} → Pieces is_identifier more_of_code xs c → Blocks ys bs
      → length bs ≤ most_blocks → length (all_places bs) ≤ most_places → mult (map place_count (all_places bs)) ≤ most_orders
      → Under bases (map place_base (all_places bs)) → Derives bases (xs ++ (ys ++ (sep semi ∷ []))) (command c bs)

-- ======== the whole: "the command's bytes and a list of base letters, at most 32, each D, H, O, B or K", and the command's tree

pub record Follows (letters : Text) (t : Text) (c : Command) : Type 0 where
  pub bases : List Base
  pub are : map letter bases ≡ letters
  pub few : length letters ≤ most_letters
  pub tokens : List Lex
  pub spelled : Spells t tokens
  pub derived : Derives bases tokens c
