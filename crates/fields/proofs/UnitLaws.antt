-- The field of a word's unit is the rules' field of the unit that the rules read, since both are by the same kinds.
use mathlib.Core.Path.{◌≡◌, sym, ap, ◌∙◌}
use mathlib.Core.List.{List, map}
use Prim.Native.Nat.{ℕ, ◌+◌, ◌-◌, ◌≤◌}
use native.Mathlib.Omega.{arith}
use lib.ListN.{length, drop, take, length-drop, length-map}
use Rattle.laws.specs.Over.{over, part_from}
use Rattle.rules.specs.Characters.{capital}
use Rattle.rules.specs.Refusals.{ok}
use Rattle.rules.specs.Units.{Base, letter, Unit, keyed, identifier, symbolic, read_word}
use Rattle.rules.specs.Records.{field_bytes, unit_field}
use Rattle.rules.proofs.ResultLaws.{ok_inj, ok≢bad}
use Rattle.std.specs.Prelude.{Ok, Err}
use Rattle.units.specs.declared.Fault.TheVariants.{Unreadable, TooBig}
use Rattle.units.specs.declared.Word.{Word}
use Rattle.units.specs.declared.Word.TheVariants.{Numeral, Keyed, Identifier, Symbolic}
use Rattle.units.specs.Words.{Answer, read_as, unit_under}
use Rattle.units.proofs.WordLaws.{unit_is}
use Rattle.units.proofs.FitLaws.{Fits, unit_fits}
use Rattle.fields.specs.Units.{numeral_bytes, unit_bytes, Skips}

-- ---- kind by kind: how long the field is, that it has room in a buffer of n bytes, and that what its writer leaves is the unit's

module _ (w : List ℕ) {u : Answer} {x : Word} (o : u ≡ Ok x) where
  module _ (l f v : ℕ) (e : x ≡ Numeral l f v) where
    pub numeral_len : 9 ≡ length (unit_bytes w u)
    unfolding unit_bytes numeral_bytes
    numeral_len = rw (o, e)

    pub numeral_room : (n : ℕ) → length (unit_bytes w u) ≤ n → 9 ≤ n
    numeral_room n h = omega (arith, numeral_len)

    pub numeral_over : (old : List ℕ) {new : List ℕ} → new ≡ over (numeral_bytes l f v) old → new ≡ over (unit_bytes w u) old
    unfolding unit_bytes
    numeral_over old q = rw (o, e) q

  module _ (k : ℕ) (e : x ≡ Keyed k) where
    keyed_part : length (unit_bytes w u) ≡ 3 + length (take (length w - k) (drop k w))
    unfolding unit_bytes
    keyed_part = rw (o, e, part_from w k) (omega (arith, length-map (drop k w) capital))

    pub keyed_inside : Skips w u → k ≤ length w
    keyed_inside h = rw (o, e) at h

    pub keyed_len : {r : ℕ} → r ≡ 3 + length (take (length w - k) (drop k w)) → r ≡ length (unit_bytes w u)
    keyed_len q = q ∙ sym keyed_part

    pub keyed_room : (n : ℕ) → length (unit_bytes w u) ≤ n → 3 + length (take (length w - k) (drop k w)) ≤ n
    keyed_room n h = omega (arith, keyed_part)

    pub keyed_over : (old : List ℕ) {new : List ℕ} → new ≡ over (field_bytes (unit_field (keyed (map capital (take (length w - k) (drop k w)))))) old → new ≡ over (unit_bytes w u) old
    unfolding unit_bytes
    keyed_over old q = rw (o, e) (q ∙ ap (λ (s : List ℕ). over (field_bytes (unit_field (keyed (map capital s)))) old) (part_from w k))

    pub keyed_size : 3 + (length w - k) ≡ length (unit_bytes w u)
    keyed_size = omega (arith, keyed_part, ap length (part_from w k), length-drop k w)

  pub identifier_size : x ≡ Identifier → length (unit_bytes w u) ≡ 3 + length w
  unfolding unit_bytes
  identifier_size e = rw (o, e) (omega arith)

  pub symbolic_size : x ≡ Symbolic → length (unit_bytes w u) ≡ 3 + length w
  unfolding unit_bytes
  symbolic_size e = rw (o, e) (omega arith)

  pub identifier_over : (old : List ℕ) {new : List ℕ} → x ≡ Identifier → new ≡ over (field_bytes (unit_field (identifier w))) old → new ≡ over (unit_bytes w u) old
  unfolding unit_bytes
  identifier_over old e q = rw (o, e) q

  pub symbolic_over : (old : List ℕ) {new : List ℕ} → x ≡ Symbolic → new ≡ over (field_bytes (unit_field (symbolic w))) old → new ≡ over (unit_bytes w u) old
  unfolding unit_bytes
  symbolic_over old e q = rw (o, e) q

-- a word that is written as it is
module _ (w : List ℕ) (u : Answer) (e : length (unit_bytes w u) ≡ 3 + length w) where
  pub whole_len : {r : ℕ} → r ≡ 3 + length w → r ≡ length (unit_bytes w u)
  whole_len q = q ∙ sym e

  pub whole_room : (n : ℕ) → length (unit_bytes w u) ≤ n → 3 + length w ≤ n
  whole_room n h = omega arith

-- ---- the rules' field

answer_bytes : (p : ℕ) (w : List ℕ) (u : Answer) (i : Unit) → Fits w u → read_as p w u ≡ ok i → unit_bytes w u ≡ field_bytes (unit_field i)
unfolding read_as unit_bytes numeral_bytes
answer_bytes p w (Ok (Numeral l f v)) i h e = rw (← ok_inj e, h.own)
answer_bytes p w (Ok (Keyed k)) i h e = rw (← ok_inj e)
answer_bytes p w (Ok Identifier) i h e = rw (← ok_inj e)
answer_bytes p w (Ok Symbolic) i h e = rw (← ok_inj e)
answer_bytes p w (Err Unreadable) i h e = ok≢bad e
answer_bytes p w (Err TooBig) i h e = ok≢bad e

pub unit_bytes_lem : (b : Base) (p : ℕ) (w : List ℕ) (i : Unit) → read_word b p w ≡ ok i → unit_bytes w (unit_under (letter b) w) ≡ field_bytes (unit_field i)
unit_bytes_lem b p w i e = answer_bytes p w (unit_under (letter b) w) i (unit_fits b w) (unit_is b p w ∙ e)
