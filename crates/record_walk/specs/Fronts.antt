-- Reading from the front of bytes: what was read, and the bytes behind it. One field; and as many of a kind as stand there, up to a limit.
use Rattle.std.specs.Prelude.{Bool, List, [], ◌∷◌, ◌++◌, ℕ, zero, suc, ◌+◌, ◌*◌, ltb, length, get_or, take, drop}
use Rattle.std.proofs.Math.Option.{Option, none, some}
use Rattle.laws.specs.Cases.{pick}
use Rattle.rules.specs.Records.{Field, field}
use Rattle.record_walk.specs.Fields.{fits}

abbrev pub Read : Type 0 → Type 0
Read A = Option (A × List ℕ)

-- ---- one reading behind the other

abbrev pub and_then : {A B : Type 0} → Read A → (A → List ℕ → Read B) → Read B
and_then none f = none
and_then (some x) f = f x.0 x.1

-- what is read must pass a test
abbrev pub only : {A : Type 0} → (A → Bool) → Read A → Read A
only p none = none
only p (some x) = pick (p x.0) (some x) none

-- what may be made of what was read
abbrev pub made : {A : Type 0} → Option A → List ℕ → Read A
made none r = none
made (some a) r = some (a, r)

-- ---- fields

-- the tag at the front, 0 if nothing stands there
abbrev pub tag_of : List ℕ → ℕ
tag_of r = get_or r 0 0

-- the tag of a field that stands at the front, 0 where there is no room for what stands before a content
abbrev pub head_tag : List ℕ → ℕ
head_tag [] = 0
head_tag (t ∷ []) = 0
head_tag (t ∷ h ∷ []) = 0
head_tag (t ∷ h ∷ l ∷ r) = t

-- the bytes of the field at the front
abbrev pub size_of : List ℕ → ℕ
size_of r = 3 + (get_or r 1 0 * 256 + get_or r 2 0)

abbrev pub content_of : List ℕ → List ℕ
content_of r = take (get_or r 1 0 * 256 + get_or r 2 0) (drop 3 r)

-- the field at the front, of any tag and length
unfoldable pub cut : List ℕ → Read Field
cut r = pick (ltb (length r) (size_of r)) none (some (field (tag_of r) (content_of r), drop (size_of r) r))

abbrev pub fitting : Field → Bool
fitting (field t w) = fits t (length w)

-- the field at the front, of a tag and length that there are
unfoldable pub front : List ℕ → Read Field
front r = only fitting (cut r)

-- ---- as many as stand there

abbrev pub before : {A : Type 0} → List A → Read (List A) → Read (List A)
before as' none = none
before as' (some x) = some (as' ++ x.0, x.1)

-- while the tag at the front starts another one, at most so many: each is read in a state, and what was read makes the next one's state
unfoldable pub several : {S A : Type 0} → (ℕ → Bool) → (S → List ℕ → Read A) → (S → A → S) → ℕ → S → List ℕ → Read (List A)
several starts one after zero s r = pick (starts (head_tag r)) none (some ([], r))
several starts one after (suc n) s r =
    pick (starts (head_tag r)) (and_then (one s r) (λ a r'. before (a ∷ []) (several starts one after n (after s a) r'))) (some ([], r))
