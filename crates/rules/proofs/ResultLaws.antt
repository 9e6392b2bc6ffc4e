-- Taking results apart: a success behind a step means that the step succeeded too.
use Prim.Native.Nat.{ℕ}
use mathlib.Core.Path.{◌≡◌, refl, ap₂}
use mathlib.Core.Bool.{Bool, true, false, cond}
use native.Mathlib.Omega.{arith}
use Rattle.rules.specs.Refusals.{Res, ok, bad, ◌>>=◌, map_r, guard}

pub ok_inj : {A : Type 0} {a b : A} → ◌≡◌ {A = Res A} (ok a) (ok b) → a ≡ b
ok_inj h = cc

pub bad_same : {A : Type 0} {n m p q : ℕ} → ◌≡◌ {A = Res A} (bad n p) (bad m q) → (n ≡ m) × (p ≡ q)
bad_same h = (cc, cc)

-- the same refusal of something else
pub bad_as : {A B : Type 0} {n m p q : ℕ} → ◌≡◌ {A = Res A} (bad n p) (bad m q) → ◌≡◌ {A = Res B} (bad n p) (bad m q)
bad_as h = let e = bad_same h in ap₂ (λ n p. bad n p) e.0 e.1

pub ok≢bad : {A : Type 0} {C : Type 0} {a : A} {n p : ℕ} → ◌≡◌ {A = Res A} (bad n p) (ok a) → C
ok≢bad h = let z : ◌≡◌ {A = ℕ} 0 1 = cc in absurd (omega arith)

pub by_res : {A C : Type 0} (r : Res A) → ((a : A) → r ≡ ok a → C) → ((n p : ℕ) → r ≡ bad n p → C) → C
by_res (ok a) f g = f a refl
by_res (bad n p) f g = g n p refl

pub bind_ok : {A B C : Type 0} (r : Res A) (f : A → Res B) (b : B) → r >>= f ≡ ok b → ((a : A) → r ≡ ok a → f a ≡ ok b → C) → C
bind_ok (ok a) f b h k = k a refl h
bind_ok (bad n p) f b h k = ok≢bad h

pub map_ok : {A B C : Type 0} (f : A → B) (r : Res A) (b : B) → map_r f r ≡ ok b → ((a : A) → r ≡ ok a → f a ≡ b → C) → C
map_ok f (ok a) b h k = k a refl (ok_inj h)
map_ok f (bad n p) b h k = ok≢bad h

pub cond_ok : {A C : Type 0} (t : Bool) (a : A) (n p : ℕ) (b : A) → ◌≡◌ {A = Res A} (cond t (ok a) (bad n p)) (ok b) → (t ≡ true → a ≡ b → C) → C
cond_ok true a n p b h k = k refl (ok_inj h)
cond_ok false a n p b h k = ok≢bad h

pub guard_ok : {B C : Type 0} (t : Bool) (n p : ℕ) (f : Bool → Res B) (b : B) → guard t n p >>= f ≡ ok b → (t ≡ true → f true ≡ ok b → C) → C
guard_ok true n p f b h k = k refl h
guard_ok false n p f b h k = ok≢bad h
