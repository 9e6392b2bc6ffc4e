-- What is cut off the front of bytes is written to the same bytes again, and back.
use mathlib.Core.Path.{◌≡◌, refl, sym, ap, ◌∙◌, subst}
use mathlib.Core.Bool.{Bool, true, false, ◌&&◌}
use mathlib.Core.List.{List, [], ◌∷◌, ◌++◌, append_assoc, append-nil}
use mathlib.Core.Option.{Option, none, some}
use Prim.Native.Nat.{ℕ, ◌+◌, ◌*◌, ◌/◌, ◌%◌, ◌≤◌, ◌<◌, zero, suc, ◌-◌}
use native.Mathlib.Nat.{div-add-mod', le_of_suc-le-suc, not-suc-le-zero}
use native.Mathlib.Omega.{arith}
use borrow.Author.Tests.{lt-ltb, le-ltb, leb-false, ltb-false, leb-true, ltb-true}
use lib.Dec.{leb, ltb}
use lib.ListN.{length, get_or, take, drop, get_or-append, get_or-eq_default, length-append, length-drop, take-append-drop}
use lib.Seq.{get_or-drop, drop-drop, take_at, drop_at, length-take-le, get_or-append-add}
use Rattle.laws.specs.Cases.{pick, by_bool, some_inj, none≢some, and_l, and_r}
use Rattle.rules.specs.Records.{Field, field, field_bytes, bytes_of, many}
use Rattle.record_walk.specs.Fields.{fits}
use Rattle.record_walk.specs.Fronts.{Read, and_then, only, made, tag_of, head_tag, size_of, content_of, cut, fitting, front, before, several}
use Rattle.rules.proofs.FieldLaws.{bytes_append, bytes_cons}

-- ---- taking readings apart

pub then_some : {A B C : Type 0} (o : Read A) (f : A → List ℕ → Read B) (y : B × List ℕ) → and_then o f ≡ some y
    → ((a : A) (r : List ℕ) → o ≡ some (a, r) → f a r ≡ some y → C) → C
then_some none f y h k = none≢some h
then_some (some x) f y h k = k x.0 x.1 refl h

pub only_some : {A C : Type 0} (p : A → Bool) (o : Read A) (a : A) (r : List ℕ) → only p o ≡ some (a, r) → (p a ≡ true → o ≡ some (a, r) → C) → C
only_some p none a r h k = none≢some h
only_some {A} {C} p (some x) a r h k = go (p x.0) refl h
  where
    go : (t : Bool) → p x.0 ≡ t → pick t (some x) none ≡ some (a, r) → C
    go true e g = let q : x ≡ (a, r) = some_inj g in k (ap (λ (y : A × List ℕ). p y.0) (sym q) ∙ e) (ap some q)
    go false e g = none≢some g

pub made_some : {A C : Type 0} (o : Option A) (r : List ℕ) (a : A) (r' : List ℕ) → made o r ≡ some (a, r') → (o ≡ some a → r ≡ r' → C) → C
made_some none r a r' h k = none≢some h
made_some {A} (some x) r a r' h k =
    let q : ◌≡◌ {A = A × List ℕ} (x, r) (a, r') = some_inj h in
    k (ap (λ (p : A × List ℕ). some p.0) q) (ap (λ (p : A × List ℕ). p.1) q)

-- ---- the field at the front

module _ (r : List ℕ) where
  cut_of : (t n : ℕ) → tag_of r ≡ t → get_or r 1 0 * 256 + get_or r 2 0 ≡ n → 3 + n ≤ length r → cut r ≡ some (field t (take n (drop 3 r)), drop (3 + n) r)
  unfolding cut
  cut_of t n et en h = rw (et, en, le-ltb (length r) (3 + n) h)

  body_long : (n : ℕ) → 3 + n ≤ length r → length (take n (drop 3 r)) ≡ n
  body_long n h = length-take-le n (drop 3 r) (simp length-drop (omega arith))

  cut_short : (n : ℕ) → get_or r 1 0 * 256 + get_or r 2 0 ≡ n → length r < 3 + n → cut r ≡ none
  unfolding cut
  cut_short n en h = rw (en, lt-ltb (length r) (3 + n) h)

  pub front_of : (t n : ℕ) → tag_of r ≡ t → get_or r 1 0 * 256 + get_or r 2 0 ≡ n → 3 + n ≤ length r → fits t n ≡ true
      → front r ≡ some (field t (take n (drop 3 r)), drop (3 + n) r)
  unfolding front
  front_of t n et en h f = rw (cut_of t n et en h, body_long n h, f)

  pub front_unfit : (t n : ℕ) → tag_of r ≡ t → get_or r 1 0 * 256 + get_or r 2 0 ≡ n → 3 + n ≤ length r → fits t n ≡ false → front r ≡ none
  unfolding front
  front_unfit t n et en h f = rw (cut_of t n et en h, body_long n h, f)

  pub front_short : (n : ℕ) → get_or r 1 0 * 256 + get_or r 2 0 ≡ n → length r < 3 + n → front r ≡ none
  unfolding front
  front_short n en h = rw (cut_short n en h)

-- ---- what is cut off the front is written to the same bytes again

-- bytes are below 256
abbrev pub Small : List ℕ → Type 0
Small r = (i : ℕ) → get_or r i 0 < 256

pub small_behind : (x r : List ℕ) → Small (x ++ r) → Small r
small_behind x r h i = subst (λ n. n < 256) (get_or-append-add x r i 0) (h (length x + i))

pub small_front : (x r : List ℕ) → Small (x ++ r) → Small x
small_front x r h i =
    by_bool (ltb i (length x))
    (λ y. subst (λ n. n < 256) (get_or-append x r 0 i (ltb-true i (length x) y)) (h i))
    (λ y. subst (λ n. n < 256) (sym (get_or-eq_default x 0 {n = i} (ltb-false i (length x) y))) (omega arith))

pub small_drop : (k : ℕ) (r : List ℕ) → Small r → Small (drop k r)
small_drop k r h i = subst (λ n. n < 256) (sym (get_or-drop k r i 0)) (h (k + i))

write_again : (t h l : ℕ) (bs : List ℕ) → l < 256 → (n : ℕ) → h * 256 + l ≡ n → n ≤ length bs
    → t ∷ h ∷ l ∷ bs ≡ field_bytes (field t (take n bs)) ++ drop n bs
write_again t h l bs k n e m =
    let high : n / 256 ≡ h = omega arith in
    let low : n % 256 ≡ l = omega arith in
    rw (length-take-le n bs m, high, low, take-append-drop n bs)

pub cut_is : (r : List ℕ) (f : Field) (r' : List ℕ) → Small r → cut r ≡ some (f, r') → r ≡ field_bytes f ++ r'
cut_is [] f r' s e = none≢some (sym (cut_short [] 0 refl (omega arith)) ∙ e)
cut_is (t ∷ []) f r' s e = none≢some (sym (cut_short (t ∷ []) 0 refl (omega arith)) ∙ e)
cut_is (t ∷ h ∷ []) f r' s e = none≢some (sym (cut_short (t ∷ h ∷ []) (h * 256 + 0) refl (omega arith)) ∙ e)
cut_is (t ∷ h ∷ l ∷ bs) f r' s e =
    let n : ℕ = h * 256 + l in
    by_bool (leb n (length bs))
    (λ y.
    let m = leb-true n (length bs) y in
    let c : cut (t ∷ h ∷ l ∷ bs) ≡ some (field t (take n bs), drop n bs) =
    cut_of (t ∷ h ∷ l ∷ bs) t n refl refl (omega arith) ∙ rw (← drop-drop n 3 (t ∷ h ∷ l ∷ bs)) in
    let q : ◌≡◌ {A = Field × List ℕ} (field t (take n bs), drop n bs) (f, r') = some_inj (sym c ∙ e) in
    write_again t h l bs (s 2) n refl m ∙ ap (λ (x : Field × List ℕ). field_bytes x.0 ++ x.1) q)
    (λ y.
    let m = leb-false n (length bs) y in
    none≢some (sym (cut_short (t ∷ h ∷ l ∷ bs) n refl (omega arith)) ∙ e))

pub front_is : {C : Type 0} (r : List ℕ) (t : ℕ) (w r' : List ℕ) → front r ≡ some (field t w, r') → (fits t (length w) ≡ true → cut r ≡ some (field t w, r') → C) → C
unfolding front
front_is r t w r' e k = only_some fitting (cut r) (field t w) r' e k

-- ---- and what is written is cut off

pub cut_field : (t : ℕ) (w rest : List ℕ) → cut (field_bytes (field t w) ++ rest) ≡ some (field t w, rest)
cut_field t w rest =
    let n : length w / 256 * 256 + length w % 256 ≡ length w = div-add-mod' (length w) 256 in
    let long : length (w ++ rest) ≡ length w + length rest = length-append w rest in
    rw (cut_of (field_bytes (field t w) ++ rest) t (length w) refl n (omega arith), take_at w rest (length w) refl, ← drop-drop (length w) 3 (field_bytes (field t w) ++ rest), drop_at w rest (length w) refl)

pub front_field : (t : ℕ) (w rest : List ℕ) → fits t (length w) ≡ true → front (field_bytes (field t w) ++ rest) ≡ some (field t w, rest)
unfolding front
front_field t w rest h = rw (cut_field t w rest, h)

-- ---- the tag at the front

pub head_none : (r : List ℕ) → length r < 3 → head_tag r ≡ 0
head_none [] h = refl
head_none (t ∷ []) h = refl
head_none (t ∷ a ∷ []) h = refl
head_none (t ∷ a ∷ b ∷ r) h = absurd (omega arith)

pub head_some : (r : List ℕ) → 3 ≤ length r → head_tag r ≡ tag_of r
head_some [] h = absurd (omega arith)
head_some (t ∷ []) h = absurd (omega arith)
head_some (t ∷ a ∷ []) h = absurd (omega arith)
head_some (t ∷ a ∷ b ∷ r) h = refl

-- where a tag stands, what stands before a content has room
pub head_room : (r : List ℕ) → 1 ≤ head_tag r → 3 ≤ length r
head_room r h = by_bool (ltb (length r) 3) (λ y. absurd (omega (arith, head_none r (ltb-true (length r) 3 y)))) (λ y. ltb-false (length r) 3 y)

pub front_tag : (r : List ℕ) (t : ℕ) (w r' : List ℕ) → front r ≡ some (field t w, r') → t ≡ head_tag r
unfolding cut
front_tag r t w r' e =
    front_is r t w r' e
    (λ _ c. by_bool (ltb (length r) (size_of r)) (λ y. none≢some (rw y at c))
    (λ y.
    let q : ◌≡◌ {A = Field × List ℕ} (field (tag_of r) (content_of r), drop (size_of r) r) (field t w, r') = some_inj (rw y at c) in
    let room : size_of r ≤ length r = ltb-false (length r) (size_of r) y in
    sym (ap (λ (x : Field × List ℕ). tag_in x.0) q) ∙ sym (head_some r (omega arith))))
  where
    tag_in : Field → ℕ
    tag_in (field n x) = n

-- ---- as many as stand there: what is read before

pub before_nil : {A : Type 0} (o : Read (List A)) → o ≡ before [] o
before_nil none = refl
before_nil (some x) = refl

before_before : {A : Type 0} (xs ys : List A) (o : Read (List A)) → before xs (before ys o) ≡ before (xs ++ ys) o
before_before xs ys none = refl
before_before {A} xs ys (some x) = ap (λ (l : List A). some (l, x.1)) (sym (append_assoc xs ys x.0))

before_some : {A C : Type 0} (xs : List A) (o : Read (List A)) (y : List A) (r : List ℕ) → before xs o ≡ some (y, r) → ((z : List A) → o ≡ some (z, r) → xs ++ z ≡ y → C) → C
before_some xs none y r h k = none≢some h
before_some {A} xs (some x) y r h k =
    let q : ◌≡◌ {A = List A × List ℕ} (xs ++ x.0, x.1) (y, r) = some_inj h in
    k x.0 (ap (λ (p : List A × List ℕ). some (x.0, p.1)) q) (ap (λ (p : List A × List ℕ). p.0) q)

module _ {S A : Type 0} (starts : ℕ → Bool) (one : S → List ℕ → Read A) (after : S → A → S) where
  -- ---- the turns of a loop: `done` was read, and the rest is read from here

  several_stop : (n : ℕ) (s : S) (r : List ℕ) → starts (head_tag r) ≡ false → several starts one after n s r ≡ some ([], r)
  unfolding several
  several_stop zero s r h = rw h
  several_stop (suc n) s r h = rw h

  several_more : (n : ℕ) (s : S) (r : List ℕ) (a : A) (r' : List ℕ) → starts (head_tag r) ≡ true → one s r ≡ some (a, r')
      → several starts one after (suc n) s r ≡ before (a ∷ []) (several starts one after n (after s a) r')
  unfolding several
  several_more n s r a r' h e = rw (h, e)

  -- by the tag t that stands there
  module _ {whole : Read (List A)} (done : List A) (n : ℕ) (s : S) (r : List ℕ) {t : ℕ} (q : whole ≡ before done (several starts one after n s r)) (e : t ≡ head_tag r) where
    pub going_end : starts t ≡ false → whole ≡ some (done, r)
    going_end h = q ∙ rw (several_stop n s r (rw e at h), append-nil done)

    pub going_full : starts t ≡ true → n ≡ 0 → whole ≡ none
    unfolding several
    going_full h z = q ∙ rw (z, ← e, h)

    pub going_bad : starts t ≡ true → (n ≡ 0 → ⊥) → one s r ≡ none → whole ≡ none
    unfolding several
    going_bad h z g = q ∙ (let m : n ≡ suc (n - 1) = omega arith in rw (m, ← e, h, g))

    pub going_more : {m : ℕ} {a : A} {r' : List ℕ} → starts t ≡ true → n ≡ suc m → one s r ≡ some (a, r')
        → whole ≡ before (done ++ (a ∷ [])) (several starts one after m (after s a) r')
    going_more {m} {a} {r'} h z g =
        q ∙ rw (z, several_more m s r a r' (rw e at h) g) (before_before done (a ∷ []) (several starts one after m (after s a) r'))

  -- ---- all are written to the bytes that they were read from, and back

  module _ (good : S → A → Bool) (fields : A → List Field) where
    -- each is good in its state
    abbrev pub goods : S → List A → Bool
    goods s [] = true
    goods s (a ∷ as') = good s a && goods (after s a) as'

    -- what was read: each is good, they are at most so many, and their bytes stood there
    pub record Wrote (n : ℕ) (s : S) (r : List ℕ) (as' : List A) (r' : List ℕ) : Type 0 where
      pub well : goods s as' ≡ true
      pub few : length as' ≤ n
      pub bytes : r ≡ bytes_of (many fields as') ++ r'

    wrote_none : (n : ℕ) (s : S) (r : List ℕ) (as' : List A) (r' : List ℕ) → ◌≡◌ {A = Read (List A)} (some ([], r)) (some (as', r')) → Wrote n s r as' r'
    wrote_none n s r as' r' q =
        subst (λ (x : List A × List ℕ). Wrote n s r x.0 x.1) (some_inj q) (record { well = refl; few = omega arith; bytes = refl })

    wrote_cons : (n : ℕ) (s : S) (r : List ℕ) (a : A) (r₁ : List ℕ) (as' : List A) (r' : List ℕ) → good s a ≡ true → r ≡ bytes_of (fields a) ++ r₁
        → Wrote n (after s a) r₁ as' r' → Wrote (suc n) s r (a ∷ as') r'
    wrote_cons n s r a r₁ as' r' g q v =
        record {
          well = rw (g, v.well);
          few = omega (arith, v.few);
          bytes = q ∙ rw (v.bytes, bytes_append (fields a) (many fields as')) (sym (append_assoc (bytes_of (fields a)) (bytes_of (many fields as')) r'));
        }

    pub several_is : ((s : S) (r : List ℕ) (a : A) (r' : List ℕ) → Small r → starts (head_tag r) ≡ true → one s r ≡ some (a, r') → (good s a ≡ true) × (r ≡ bytes_of (fields a) ++ r'))
        → (n : ℕ) (s : S) (r : List ℕ) (as' : List A) (r' : List ℕ) → Small r → several starts one after n s r ≡ some (as', r') → Wrote n s r as' r'
    unfolding several
    several_is each zero s r as' r' sm e =
        by_bool (starts (head_tag r)) (λ y. none≢some (rw y at e)) (λ y. wrote_none zero s r as' r' (sym (several_stop zero s r y) ∙ e))
    several_is each (suc n) s r as' r' sm e =
        by_bool (starts (head_tag r))
        (λ y. then_some (one s r) _ (as', r') (rw y at e)
        (λ a r₁ h g. before_some (a ∷ []) (several starts one after n (after s a) r₁) as' r' g
        (λ z k q.
        let w = each s r a r₁ sm y h in
        let sm₁ : Small r₁ = small_behind (bytes_of (fields a)) r₁ (subst Small w.1 sm) in
        subst (λ (l : List A). Wrote (suc n) s r l r') q (wrote_cons n s r a r₁ z r' w.0 w.1 (several_is each n (after s a) r₁ z r' sm₁ k)))))
        (λ y. wrote_none (suc n) s r as' r' (sym (several_stop (suc n) s r y) ∙ e))

    -- back: each is read where the tag behind it ends it, the next one's tag does so, and starts the next one
    module _ (ends : ℕ → Bool)
        (reads : (s : S) (a : A) (rest : List ℕ) → good s a ≡ true → ends (head_tag rest) ≡ true → one s (bytes_of (fields a) ++ rest) ≡ some (a, rest))
        (opens : (a : A) (rest : List ℕ) → starts (head_tag (bytes_of (fields a) ++ rest)) ≡ true)
        (closes : (a : A) (rest : List ℕ) → ends (head_tag (bytes_of (fields a) ++ rest)) ≡ true) where
      ended : (as' : List A) (rest : List ℕ) → ends (head_tag rest) ≡ true → ends (head_tag (bytes_of (many fields as') ++ rest)) ≡ true
      ended [] rest h = h
      ended (a ∷ as') rest h = rw (bytes_cons fields a as' rest) (closes a (bytes_of (many fields as') ++ rest))

      pub several_all : (as' : List A) (n : ℕ) (s : S) (rest : List ℕ) → goods s as' ≡ true → length as' ≤ n → starts (head_tag rest) ≡ false
          → ends (head_tag rest) ≡ true → several starts one after n s (bytes_of (many fields as') ++ rest) ≡ some (as', rest)
      several_all [] n s rest g h st en = several_stop n s rest st
      several_all (a ∷ as') zero s rest g h st en = absurd (not-suc-le-zero h)
      several_all (a ∷ as') (suc n) s rest g h st en =
          let r₁ : List ℕ = bytes_of (many fields as') ++ rest in
          rw (
            bytes_cons fields a as' rest,
            several_more n s (bytes_of (fields a) ++ r₁) a r₁ (opens a r₁) (reads s a r₁ (and_l (good s a) (goods (after s a) as') g) (ended as' rest en)),
            several_all as' n (after s a) rest (and_r (good s a) (goods (after s a) as') g) (le_of_suc-le-suc h) st en,
          )
