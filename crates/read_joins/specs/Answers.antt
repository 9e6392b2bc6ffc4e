-- The rules' ends of a range and the rules' elements as the code answers them.
use Rattle.std.specs.Prelude.{ℕ, ◌+◌, ◌-◌, ◌/◌, ◌≡◌, cond, List, Option, Some, None, Result, Ok, Err, eqb}
use Rattle.std.proofs.Math.Option.{Option as Found, none, some}
use Rattle.digits.specs.Digits.{size_at}
use Rattle.rules.specs.Commands.{Element, single, range}
use Rattle.rules.specs.Groups.{Join, end_of, no_more}
use Rattle.rules.specs.Refusals.{Res, ok, bad}
use Rattle.rules.specs.Units.{Radix, size, Unit}
use Rattle.rules.specs.declared.Refusal.{Refusal}
use Rattle.rules.specs.Reasons.{refusal}
use Rattle.units.specs.declared.Word.TheVariants.{Numeral, Keyed, Identifier, Symbolic}
use Rattle.units.specs.Words.{Answer}
use Rattle.token_table.specs.declared.Token.{Token as Entry}
use Rattle.read_joins.specs.Joins.{joins_in, unit_at, inner_at, dashes_at, next_at}
use Rattle.read_joins.specs.declared.End.{End}
use Rattle.read_joins.specs.declared.Ends.{Ends}
use Rattle.read_joins.specs.declared.Shape.{Shape}
use Rattle.read_joins.specs.declared.Shape.TheVariants.{Single, Range}

-- ---- a range's ends

-- an end of a range: how many digits its base has, and its value
abbrev pub end_answer : Found (Radix × ℕ) → Option End
end_answer none = None
end_answer (some x) = Some (record { size = size x.0; value = x.1 })

-- the n-th unit as an end
unfoldable pub end_at : List (Join Unit) → ℕ → Option End
end_at js n = end_answer (end_of (unit_at js n))

-- a word as an end
abbrev pub unit_end : Answer → Option End
unit_end (Ok (Numeral l f v)) = cond (eqb f 0) (Some (record { size = size_at l; value = v })) None
unit_end (Ok (Keyed k)) = None
unit_end (Ok Identifier) = None
unit_end (Ok Symbolic) = None
unit_end (Err f) = None

-- both ends, of one base
abbrev pub with_lower : End → Option End → Option Ends
with_lower a None = None
with_lower a (Some b) = cond (eqb a.size b.size) (Some (record { size = a.size; lower = a.value; upper = b.value })) None

abbrev pub both_ends : Option End → Option End → Option Ends
both_ends None b = None
both_ends (Some a) b = with_lower a b

-- an increment, none for a 0
abbrev pub step_end : ℕ → Option End → Option ℕ
step_end z None = None
step_end z (Some a) = cond (eqb z a.size) (cond (eqb a.value 0) None (Some a.value)) None

-- ---- an element, and where the next one begins

-- an element behind which the next one begins at n; the terms behind its first are its terms but one
abbrev pub element_answer : ℕ → Res Element → Result Shape Refusal
element_answer n (ok (single l u)) = Ok (Single n)
element_answer n (ok (range l r lo up inc)) = Ok (Range up inc ((up - lo) / inc) n)
element_answer n (bad k p) = Err (refusal k p)

-- the unit that begins the next element, and how many arguments stand behind the first
abbrev pub next_of : Shape → ℕ
next_of (Single n) = n
next_of (Range up inc m n) = n

abbrev pub more_of : Shape → ℕ
more_of (Single n) = 0
more_of (Range up inc m n) = m

-- the units joined by `-` from the n-th on end at e, whatever the base and the contents
abbrev pub ArgEnd : List Entry → ℕ → ℕ → Type 0
ArgEnd ts n e = (b : ℕ) (cs : List ℕ) → e ≡ n + dashes_at (joins_in b cs ts) n

-- the rule `no_more` from the n-th unit on, whatever the base, the contents, the leading units and the base of the range
abbrev pub NoMore : List Entry → ℕ → ℕ → ℕ → ℕ → Result Shape Refusal → Type 0
NoMore ts n lo up inc e =
    (b : ℕ) (cs : List ℕ) (l : List Unit) (r : Radix)
    → e ≡ element_answer (next_at (joins_in b cs ts) n) (no_more (inner_at (joins_in b cs ts) n) (range l r lo up inc))
