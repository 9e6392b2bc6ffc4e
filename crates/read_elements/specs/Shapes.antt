-- What the code answers for an element, decision by decision: the rule's result for the joined units that stand there.
use Rattle.std.specs.Prelude.{ℕ, ◌+◌, ◌-◌, ◌≡◌, Bool, cond, List, Option, Some, None, Result, leb, eqb, length}
use Rattle.laws.specs.Lists.{is_nil}
use Rattle.rules.specs.Groups.{Join, Group, group, increment, upper, later}
use Rattle.rules.specs.Refusals.{bad, group_broken}
use Rattle.rules.specs.Tokens.{ampamp, ampamp_, amp_, sep_code}
use Rattle.rules.specs.Units.{Radix, size, Unit}
use Rattle.read_joins.specs.Joins.{joins_in, sep_at, kind_at, sep_place_at, place_at, unit_at, inner_at, dashes_at, next_at, sep_kind, sep_place, unit_place}
use Rattle.read_joins.specs.Answers.{element_answer}
use Rattle.rules.specs.declared.Refusal.{Refusal}
use Rattle.token_table.specs.declared.Token.{Token as Entry}
use Rattle.read_joins.specs.declared.Shape.{Shape}

-- the rule `increment`, in a base of z digits
abbrev pub Increment : List (Join Unit) → ℕ → ℕ → ℕ → ℕ → Result Shape Refusal → Type 0
Increment js n z lo up e = (l : List Unit) (r : Radix) → z ≡ size r → e ≡ element_answer (next_at js n) (increment l r lo up (inner_at js n))

-- the rule `upper` behind an argument, which is simple or not and whose last unit is the one before the n-th
abbrev pub Upper : List (Join Unit) → ℕ → Bool → Result Shape Refusal → Type 0
Upper js n s e = (l : List Unit) → is_nil l ≡ s → e ≡ element_answer (next_at js n) (upper l (unit_at js (n - 1)) (inner_at js n))

-- the same where the separator is that of a range
abbrev pub Ranged : List (Join Unit) → ℕ → Result Shape Refusal → Type 0
Ranged js n e = (l : List Unit) → kind_at js n ≡ cond (is_nil l) (sep_code ampamp) (sep_code ampamp_) → e ≡ element_answer (next_at js n) (upper l (unit_at js (n - 1)) (inner_at js n))

-- the same where both ends are numerals of one base of z digits: upper not below lower, then `increment`
abbrev pub Ordered : List (Join Unit) → ℕ → ℕ → ℕ → ℕ → Result Shape Refusal → Type 0
Ordered js n z lo up e =
    (l : List Unit) (r : Radix) → z ≡ size r
    → e ≡ element_answer (next_at js n) (cond (leb lo up) (increment l r lo up (inner_at js (n + 1))) (bad group_broken (place_at js n)))

-- the element that begins at the n-th unit, as the rules collect it
abbrev pub group_at : List (Join Unit) → ℕ → Group
group_at js n = group (sep_at js n) (sep_place_at js n) (place_at js n) (unit_at js n) (inner_at js (n + 1))

-- the rule `later`, whatever the k leading units of the element before are
abbrev pub Later : List (Join Unit) → ℕ → ℕ → Result Shape Refusal → Type 0
Later js k n e = (l : List Unit) → length l ≡ k → e ≡ element_answer (next_at js (n + 1)) (later l (group_at js n))

-- the unit behind the argument that it begins with: behind `&-` that is one unit, else as many as are joined by `-`; none where its leading units are not k
abbrev pub last_end : List (Join Unit) → ℕ → ℕ → Option ℕ
last_end js k n = cond (eqb (kind_at js n) (sep_code amp_)) (cond (eqb k 0) None (Some (n + 1))) (cond (eqb (dashes_at js (n + 1)) k) (Some (n + 1 + k)) None)

-- the same, whatever the base and the contents
abbrev pub LastEnd : List Entry → ℕ → ℕ → Option ℕ → Type 0
LastEnd ts k n e = (b : ℕ) (cs : List ℕ) → e ≡ last_end (joins_in b cs ts) k n

-- the place of an element whose leading units are not k: that of its `&-`, else of its first unit
abbrev pub broken_place : List Entry → ℕ → ℕ
broken_place ts n = cond (eqb (sep_kind ts n) (sep_code amp_)) (sep_place ts n) (unit_place ts n)
