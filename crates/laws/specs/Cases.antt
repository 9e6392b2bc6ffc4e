-- Choosing by a test, and cases on a test, an option or a conjunction with their equations.
use Rattle.std.specs.Prelude.{◌≡◌, refl, Bool, true, false, cond, ◌&&◌, ◌||◌, ℕ, eqb}
use Rattle.std.proofs.Common.{sym, ◌∙◌, arith, eqb-true, eq-eqb, leb-true, ltb-true}
use Rattle.std.proofs.lemmas.Bool.{false≢true, not-true}
use Rattle.std.specs.Bool.{beq}
use Rattle.std.proofs.Math.Option.{Option, none, some}

-- the type of what always holds, under a name that leaves `Unit` to the paper's units
abbrev pub Always : Type 0
Always = Unit {0}

-- one of two by a test, for every type
abbrev pub pick : {A : Type 0} → Bool → A → A → A
pick true a b = a
pick false a b = b

pub pick_all : {A : Type 0} (P : A → Type 0) (t : Bool) {a b : A} → P a → P b → P (pick t a b)
pick_all P true p q = p
pick_all P false p q = q

pub pick_if : {A : Type 0} (P : A → Type 0) (t : Bool) {a b : A} → (t ≡ true → P a) → (t ≡ false → P b) → P (pick t a b)
pick_if P true f g = f refl
pick_if P false f g = g refl

pub cond_both : {A : Type 0} (P : A → Type 0) (t : Bool) {x y : A} → P x → P y → P (cond t x y)
cond_both P true px py = px
cond_both P false px py = py

pub cond_by : {A : Type 0} (P : A → Type 0) (t : Bool) {x y : A} → (t ≡ true → P x) → (t ≡ false → P y) → P (cond t x y)
cond_by P true f g = f refl
cond_by P false f g = g refl

-- ---- cases, each with its equation

pub by_bool : {C : Type 0} (b : Bool) → (b ≡ true → C) → (b ≡ false → C) → C
by_bool true f g = f refl
by_bool false f g = g refl

pub by_option : {A C : Type 0} (o : Option A) → (o ≡ none → C) → ((a : A) → o ≡ some a → C) → C
by_option none f g = f refl
by_option (some a) f g = g a refl

pub some_inj : {A : Type 0} {a b : A} → ◌≡◌ {A = Option A} (some a) (some b) → a ≡ b
some_inj h = cc

pub none≢some : {A : Type 0} {C : Type 0} {a : A} → ◌≡◌ {A = Option A} none (some a) → C
none≢some h = let z : ◌≡◌ {A = ℕ} 0 1 = cc in absurd (omega arith)

pub cond_some : {A C : Type 0} (t : Bool) (a b : A) → ◌≡◌ {A = Option A} (cond t (some a) none) (some b) → (t ≡ true → a ≡ b → C) → C
cond_some true a b h k = k refl (some_inj h)
cond_some false a b h k = none≢some h

-- ---- conjunctions and disjunctions

pub and_l : (a b : Bool) → a && b ≡ true → a ≡ true
and_l true b h = refl
and_l false b h = h

pub and_r : (a b : Bool) → a && b ≡ true → b ≡ true
and_r true b h = h
and_r false b h = absurd (false≢true h)

pub and_false : (a : Bool) → a && false ≡ false
and_false true = refl
and_false false = refl

pub or_l : (a b : Bool) → a ≡ true → a || b ≡ true
or_l true b h = refl
or_l false b h = absurd (false≢true h)

pub or_r : (a b : Bool) → b ≡ true → a || b ≡ true
or_r true b h = refl
or_r false b h = h

pub or_true : (a : Bool) → a || true ≡ true
or_true true = refl
or_true false = refl

pub or_cases : {C : Type 0} (a b : Bool) → a || b ≡ true → (a ≡ true → C) → (b ≡ true → C) → C
or_cases true b h f g = f refl
or_cases false b h f g = g h

pub or_false : (a b : Bool) → a || b ≡ false → (a ≡ false) × (b ≡ false)
or_false true b h = absurd (false≢true (sym h))
or_false false b h = (refl, h)

-- the parts of a conjunction of tests, and what they say of numbers: `search conjuncts` finds each
pub ruleset conjuncts = (and_l, and_r, leb-true, ltb-true, eqb-true, not-true)

pub beq_same : (a b : Bool) → beq a b ≡ true → a ≡ b
beq_same true true h = refl
beq_same true false h = absurd (false≢true h)
beq_same false true h = absurd (false≢true h)
beq_same false false h = refl

pub eqb_sym : (a b : ℕ) → eqb a b ≡ eqb b a
eqb_sym a b =
    by_bool (eqb a b)
    (λ y. rw y (sym (eq-eqb b a (sym (eqb-true a b y)))))
    (λ y. by_bool (eqb b a) (λ z. absurd (false≢true (sym y ∙ eq-eqb a b (sym (eqb-true b a z))))) (λ z. rw (y, z)))
