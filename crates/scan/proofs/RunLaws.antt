-- The automaton along the text: one byte, the end of the text, and a byte that ends what was read, each by one step of `run`.
use mir.Syntax.{w64}
use mir.Val.{Fits}
use Prim.Native.Nat.{◌-◌, ◌*◌, ◌^◌, ℕ, suc, ◌+◌, ◌<◌, ◌≤◌}
use mathlib.Core.Path.{◌≡◌, sym, ◌∙◌}
use mathlib.Core.List.{List, ◌∷◌, reverse, reverse-append}
use native.Mathlib.Numerals.{add-one}
use native.Mathlib.Omega.{arith}
use lib.Dec.{ltb}
use lib.ListN.{length, get_or, take, set, drop_of_length-le, get_or-eq_default}
use lib.Seq.{drop-cons, take-suc-set}
use borrow.Author.Tests.{ltb-true, ltb-false}
use Rattle.laws.specs.Cases.{by_bool}
use Rattle.rules.specs.Tokens.{State, idle, flush, and_then, stay, fresh, end, step, next}
use Rattle.rules.proofs.ScanBack.{next_after, then_nil}
use Rattle.rules.specs.Reasons.{number}
use Rattle.rules.specs.Refusals.{Res, bad}
use Rattle.rules.specs.declared.Reason.{Reason}
use Rattle.rules.specs.declared.Refusal.{Refusal}
use Rattle.scan.specs.Along.{run_at, RefusedBy}

-- what is refused with a reason at a place is refused by that refusal
pub refuses : {A : Type 0} {x : Res A} {r : Reason} {p : ℕ} (e : Refusal) → e ≡ record { reason = r; place = p } → x ≡ bad (number r) p → RefusedBy x e
refuses e q h = h ∙ rw q

module _ (st : State) (s : List ℕ) (i : ℕ) where
  pub run_end : length s ≤ i → run_at st s i ≡ flush st
  unfolding run_at
  run_end h = rw (drop_of_length-le s h)

  pub run_step : i < length s → run_at st s i ≡ next (step st i (get_or s i 0)) (λ st'. run_at st' s (i + 1))
  unfolding run_at
  run_step h = rw (add-one i, drop-cons s i 0 h)

pub stayed : (st st' : State) (s : List ℕ) (i : ℕ) → i < length s → step st i (get_or s i 0) ≡ stay st' → run_at st s i ≡ run_at st' s (i + 1)
stayed st st' s i h e = run_step st s i h ∙ rw e

-- the byte behind i
pub stayed_next : (st st' : State) (s : List ℕ) (i : ℕ) → i + 1 < length s → step st (i + 1) (get_or s (i + 1) 0) ≡ stay st' → run_at st s (i + 1) ≡ run_at st' s (i + 2)
stayed_next st st' s i h e = let two : i + 2 ≡ i + 1 + 1 = omega arith in rw two (stayed st st' s (i + 1) h e)

-- a byte that does not go on with what was read, or none
pub settle : (st : State) (s : List ℕ) (i : ℕ) → ((p : ℕ) → step st p (get_or s i 0) ≡ end st p (get_or s i 0)) → run_at st s i ≡ and_then (flush st) (run_at idle s i)
settle st s i f =
    by_bool (ltb i (length s))
    (λ y.
    let h = ltb-true i (length s) y in
    rw (run_step st s i h, f i, run_step idle s i h)
    (next_after (flush st) (fresh i (get_or s i 0)) (λ st'. run_at st' s (i + 1))))
    (λ y.
    let h = ltb-false i (length s) y in
    rw (run_end st s i h, run_end idle s i h) (then_nil (flush st)))

-- a byte that is not 0 is inside the text
pub inside : (s : List ℕ) (i : ℕ) {n : ℕ} → get_or s i 0 ≡ suc n → i < length s
inside s i {n} e =
    by_bool (ltb i (length s))
    (λ y. ltb-true i (length s) y)
    (λ y.
    let z : 0 ≡ suc n = sym (get_or-eq_default s 0 (ltb-false i (length s) y)) ∙ e in
    absurd (omega arith))

module _ (s : List ℕ) (i b : ℕ) (e : get_or s i 0 ≡ b) (h : 0 < b) where
  pub next_inside : i + 1 ≤ length s
  next_inside = let z : get_or s i 0 ≡ suc (b - 1) = omega arith in omega (arith, inside s i z)

  pub next_fits : length s * 1 < 2 ^ 63 → Fits w64 (i + 1)
  next_fits g = omega (arith, next_inside)

pub behind_fits : (s : List ℕ) (i : ℕ) {b n : ℕ} → b ≡ get_or s i 0 → b ≡ suc n → length s * 1 < 2 ^ 63 → Fits w64 (i + 1)
behind_fits s i e t g = omega (arith, inside s i (sym e ∙ t))

-- a byte stored behind the first n is gathered in front of them, last first
pub stored : (out : List ℕ) (n b : ℕ) → n < length out → reverse (take (n + 1) (set out n b)) ≡ b ∷ reverse (take n out)
stored out n b h = rw (add-one n, take-suc-set out n b h, reverse-append)
