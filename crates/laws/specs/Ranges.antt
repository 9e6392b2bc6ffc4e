-- A test of numbers that is computed at each number of a range holds at every number of the range.
use Rattle.std.specs.Prelude.{◌≡◌, Bool, true, ◌&&◌, ℕ, zero, suc, ◌+◌, ◌<◌, ◌≤◌, eqb}
use Rattle.std.proofs.Common.{subst, arith, eqb-true}
use Rattle.std.specs.Bool.{beq}
use Rattle.std.proofs.Math.Arith.{lt_of_le-ne}
use Rattle.std.proofs.lemmas.Bool.{eqb-false}
use Rattle.laws.specs.Cases.{beq_same, by_bool, and_l, and_r}

-- the test passes at a and the n - 1 numbers behind it
abbrev pub alike : (ℕ → Bool) → ℕ → ℕ → Bool
alike f a zero = true
alike f a (suc n) = f a && alike f (suc a) n

pub in_range : (f : ℕ → Bool) (a n : ℕ) → alike f a n ≡ true → (b : ℕ) → a ≤ b → b < a + n → f b ≡ true
in_range f a zero h b l u = absurd (omega arith)
in_range f a (suc n) h b l u =
    by_bool (eqb a b)
    (λ y. subst (λ m. f m ≡ true) (eqb-true a b y) (and_l (f a) (alike f (suc a) n) h))
    (λ y. in_range f (suc a) n (and_r (f a) (alike f (suc a) n) h) b (lt_of_le-ne l (eqb-false a b y)) (omega arith))

-- two functions that are computed alike at each number of a range are equal there
pub equal_in_range : (f g : ℕ → ℕ) (a n : ℕ) → alike (λ x. eqb (f x) (g x)) a n ≡ true → (b : ℕ) → a ≤ b → b < a + n → f b ≡ g b
equal_in_range f g a n h b l u = eqb-true (f b) (g b) (in_range (λ x. eqb (f x) (g x)) a n h b l u)

-- a test that answers alike at each number of a range answers so at every one of them
pub told_in_range : (r : Bool) (f : ℕ → Bool) (a n : ℕ) → alike (λ x. beq r (f x)) a n ≡ true → (b : ℕ) → a ≤ b → b < a + n → r ≡ f b
told_in_range r f a n h b l u = beq_same r (f b) (in_range (λ x. beq r (f x)) a n h b l u)
