-- Lists: tests over all members, equality by a test, joining, and what a position or a part of a list is.
use Rattle.std.specs.Prelude.{◌≡◌, refl, Bool, true, false, ◌&&◌, ◌||◌, List, [], ◌∷◌, ◌++◌, map, ℕ, zero, suc, ◌+◌, ◌<◌, ◌≤◌, eqb, length, get_or, drop}
use Rattle.std.proofs.Math.Path.{sym}
use Rattle.std.proofs.Common.{ap₂, ◌∙◌, le_of_suc-le-suc, not-suc-le-zero, add-one, drop_of_length-le, drop-cons, eqb-true, eq-eqb}
use Rattle.std.proofs.lemmas.Bool.{false≢true}
use Rattle.laws.specs.Cases.{by_bool, and_l, and_r}

-- ---- definitions

abbrev pub all : {A : Type 0} → (A → Bool) → List A → Bool
all f [] = true
all f (x ∷ xs) = f x && all f xs

abbrev pub any : {A : Type 0} → (A → Bool) → List A → Bool
any f [] = false
any f (x ∷ xs) = f x || any f xs

abbrev pub is_nil : {A : Type 0} → List A → Bool
is_nil [] = true
is_nil (x ∷ xs) = false

-- the lists have the same numbers
abbrev pub eq_l : List ℕ → List ℕ → Bool
eq_l [] [] = true
eq_l [] (y ∷ ys) = false
eq_l (x ∷ xs) [] = false
eq_l (x ∷ xs) (y ∷ ys) = eqb x y && eq_l xs ys

abbrev pub concat : {A : Type 0} → List (List A) → List A
concat [] = []
concat (x ∷ xs) = x ++ concat xs

-- all from position i on
unfoldable pub all_at : (ℕ → Bool) → List ℕ → ℕ → Bool
all_at f s i = all f (drop i s)

-- ---- laws

pub all_append : {A : Type 0} (f : A → Bool) (xs ys : List A) → all f xs ≡ true → all f ys ≡ true → all f (xs ++ ys) ≡ true
all_append f [] ys h k = k
all_append f (x ∷ xs) ys h k = by_bool (f x) (λ y. rw y (all_append f xs ys (rw y at h) k)) (λ y. absurd (false≢true (rw y at h)))

-- of a list with a last member: those before it, and that one
pub all_front : {A : Type 0} (f : A → Bool) (xs : List A) (x : A) → all f (xs ++ (x ∷ [])) ≡ true → all f xs ≡ true
all_front f [] x h = refl
all_front f (y ∷ ys) x h = rw (and_l (f y) (all f (ys ++ (x ∷ []))) h) (all_front f ys x (and_r (f y) (all f (ys ++ (x ∷ []))) h))

pub all_last : {A : Type 0} (f : A → Bool) (xs : List A) (x : A) → all f (xs ++ (x ∷ [])) ≡ true → f x ≡ true
all_last f [] x h = and_l (f x) true h
all_last f (y ∷ ys) x h = all_last f ys x (and_r (f y) (all f (ys ++ (x ∷ []))) h)

pub all_concat : {A : Type 0} (f : A → Bool) (xss : List (List A)) → all (all f) xss ≡ true → all f (concat xss) ≡ true
all_concat f [] h = refl
all_concat f (xs ∷ xss) h =
    all_append f xs (concat xss) (and_l (all f xs) (all (all f) xss) h) (all_concat f xss (and_r (all f xs) (all (all f) xss) h))

pub all_mono : {A : Type 0} (f g : A → Bool) → ((a : A) → f a ≡ true → g a ≡ true) → (xs : List A) → all f xs ≡ true → all g xs ≡ true
all_mono f g k [] h = refl
all_mono f g k (x ∷ xs) h = rw (k x (and_l (f x) (all f xs) h)) (all_mono f g k xs (and_r (f x) (all f xs) h))

pub all_map : {A B : Type 0} (f : A → Bool) (g : B → Bool) (m : A → B) → ((a : A) → f a ≡ true → g (m a) ≡ true) → (xs : List A) → all f xs ≡ true → all g (map m xs) ≡ true
all_map f g m k [] h = refl
all_map f g m k (x ∷ xs) h = rw (k x (and_l (f x) (all f xs) h)) (all_map f g m k xs (and_r (f x) (all f xs) h))

-- what holds of all holds of each
pub all_member : {A : Type 0} (f : A → Bool) (xs : List A) (y : A) (ys : List A) → all f (xs ++ (y ∷ ys)) ≡ true → f y ≡ true
all_member f [] y ys h = and_l (f y) (all f ys) h
all_member f (x ∷ xs) y ys h = all_member f xs y ys (and_r (f x) (all f (xs ++ (y ∷ ys))) h)

pub any_append : (f : ℕ → Bool) (xs ys : List ℕ) → any f xs ≡ false → any f ys ≡ false → any f (xs ++ ys) ≡ false
any_append f [] ys h k = k
any_append f (x ∷ xs) ys h k = by_bool (f x) (λ y. absurd (false≢true (sym h ∙ rw y))) (λ y. rw y (any_append f xs ys (rw y at h) k))

pub all_broken : (f : ℕ → Bool) (xs : List ℕ) (c : ℕ) (ys : List ℕ) → f c ≡ false → all f (xs ++ c ∷ ys) ≡ false
all_broken f [] c ys h = rw h
all_broken f (x ∷ xs) c ys h = by_bool (f x) (λ y. rw y (all_broken f xs c ys h)) (λ y. rw y)

pub snoc_some : (xs : List ℕ) (c : ℕ) → is_nil (xs ++ (c ∷ [])) ≡ false
snoc_some [] c = refl
snoc_some (x ∷ xs) c = refl

pub nil_map : {A B : Type 0} (f : A → B) (xs : List A) → is_nil (map f xs) ≡ is_nil xs
nil_map f [] = refl
nil_map f (x ∷ xs) = refl

pub eq_l_is : (xs ys : List ℕ) → eq_l xs ys ≡ true → xs ≡ ys
eq_l_is [] [] h = refl
eq_l_is [] (y ∷ ys) h = absurd (false≢true h)
eq_l_is (x ∷ xs) [] h = absurd (false≢true h)
eq_l_is (x ∷ xs) (y ∷ ys) h =
    ap₂ (λ a l. a ∷ l) (eqb-true x y (and_l (eqb x y) (eq_l xs ys) h)) (eq_l_is xs ys (and_r (eqb x y) (eq_l xs ys) h))

pub eq_l_refl : (w : List ℕ) → eq_l w w ≡ true
eq_l_refl [] = refl
eq_l_refl (c ∷ w) = rw (eq-eqb c c refl, eq_l_refl w)

pub get_d_map_lt : {A B : Type 0} (f : A → B) (l : List A) (n : ℕ) (d : A) (e : B) → n < length l → get_or (map f l) n e ≡ f (get_or l n d)
get_d_map_lt f [] n d e h = absurd (not-suc-le-zero h)
get_d_map_lt f (x ∷ xs) zero d e h = refl
get_d_map_lt f (x ∷ xs) (suc n) d e h = get_d_map_lt f xs n d e (le_of_suc-le-suc h)

-- what stands from position i on: the member there, and what stands behind it
pub next : (s : List ℕ) (i : ℕ) → i < length s → drop i s ≡ get_or s i 0 ∷ drop (i + 1) s
next s i h = rw (add-one, drop-cons s i 0)

-- the turns of a loop that tests all members from position i on
module _ (f : ℕ → Bool) (s : List ℕ) (i : ℕ) where
  pub all_end : {r : Bool} → r ≡ all_at f s i → length s ≤ i → true ≡ r
  unfolding all_at
  all_end q h = sym (q ∙ rw (drop_of_length-le s h))

  pub all_more : {t r : Bool} → r ≡ all_at f s i → i < length s → t ≡ f (get_or s i 0) → t ≡ true → r ≡ all_at f s (i + 1)
  unfolding all_at
  all_more q h e n = q ∙ rw (next s i h, ← e, n)

  pub all_stop : {t r : Bool} → r ≡ all_at f s i → i < length s → t ≡ f (get_or s i 0) → t ≡ false → false ≡ r
  unfolding all_at
  all_stop q h e n = sym (q ∙ rw (next s i h, ← e, n))
