-- An entry where a table has none, the next entry of a table, and tests on kinds: a kind's number is its own.
use Prim.Native.Nat.{ℕ, ◌+◌, ◌<◌}
use mathlib.Core.Path.{◌≡◌, refl, sym, ◌∙◌}
use lib.Dec.{eqb}
use denote.Enum.Bare.{sameb, tag_one}
use denote.Enum.Declared.{tag_of}
use Rattle.token_table.specs.contracts.Kind.{the_type}
use mathlib.Core.List.{List, ◌∷◌}
use native.Mathlib.Numerals.{add-one}
use lib.ListN.{length, get_or, drop}
use lib.Seq.{drop-cons}
use Rattle.token_table.specs.declared.Kind.{Kind}
use Rattle.token_table.specs.declared.Kind.TheVariants.{AmpAmpDash, AmpAmp, AmpDash, Amp, PlusPlus, Dash, Comma, Colon, Equals, Semicolon, Word, String}
use Rattle.token_table.specs.declared.Token.{Token as Entry}
use Rattle.token_table.specs.Table.{number}

-- what is read of a table past its end
abbrev pub no_token : Entry
no_token = record { kind = AmpAmpDash; place = 0; start = 0; len = 0 }

pub next_token : (ts : List Entry) (i : ℕ) → i < length ts → drop i ts ≡ get_or ts i no_token ∷ drop (i + 1) ts
next_token ts i h = rw (add-one, drop-cons ts i no_token)

-- ---- tests on kinds are tests on their numbers

tag_is : (k : Kind) → tag_of the_type k ≡ number k
tag_is AmpAmpDash = refl
tag_is AmpAmp = refl
tag_is AmpDash = refl
tag_is Amp = refl
tag_is PlusPlus = refl
tag_is Dash = refl
tag_is Comma = refl
tag_is Colon = refl
tag_is Equals = refl
tag_is Semicolon = refl
tag_is Word = refl
tag_is String = refl

-- what `==` on kinds says
pub same_is : (k j : Kind) → sameb the_type k j ≡ eqb (number k) (number j)
same_is k j = rw (tag_is k, tag_is j)

pub same_kind : {k j : Kind} → number k ≡ number j → k ≡ j
same_kind {k} {j} e = tag_one the_type tt k j (tag_is k ∙ e ∙ sym (tag_is j))

-- a test that tells two kinds apart tells their numbers apart
pub other_kind : {k j : Kind} → (k ≡ j → ⊥) → number k ≡ number j → ⊥
other_kind n e = n (same_kind e)
