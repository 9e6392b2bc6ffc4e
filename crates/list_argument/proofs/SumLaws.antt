-- The bytes of all arguments of a value, element by element: an element's arguments are equally long, since only the number in the last unit changes.
use mathlib.Core.Path.{◌≡◌, refl, sym, ap, ◌∙◌}
use mathlib.Core.Bool.{true}
use mathlib.Core.List.{List, [], ◌∷◌, ◌++◌, map, map-map, map-append, append-nil, append_assoc}
use Prim.Native.Nat.{ℕ, suc, ◌+◌, ◌-◌, ◌*◌, ◌≤◌, ◌<◌}
use native.Mathlib.Nat.{suc-mul, zero-mul, mul-le-mul_left, mul-le-mul_right}
use native.Mathlib.Omega.{arith}
use lib.ListN.{length, length-append, length-map}
use Rattle.laws.specs.Lists.{concat}
use Rattle.rules.specs.Units.{Base, num}
use Rattle.rules.specs.Commands.{Element, single, range}
use Rattle.rules.specs.Records.{bytes_of, element_fields}
use Rattle.rules.specs.WellFormed.{wf_element}
use Rattle.rules.specs.Orders.{stepping, arguments}
use Rattle.rules.proofs.DirectIsList.{arguments_length}
use Rattle.rules.proofs.ValueBack.{ok_range}
use Rattle.record_walk.specs.Runs.{ElementTo, bytes_in}
use Rattle.order_argument.specs.Terms.{more_terms, valued_bytes}
use Rattle.order_argument.proofs.TermLaws.{terms_are, valued_single, valued_range, valued_short}
use Rattle.record_walk.specs.Values.{value_bytes, Holds, Value}
use Rattle.list_argument.specs.Standings.{choices_of}
use Rattle.list_argument.proofs.StandingLaws.{alone, alone_is}
use Rattle.record_walk.proofs.ValueLaws.{end_is, first_bytes, behind_first, fine_first, value_cons, element_some, element_on}

-- ---- lists

concat_append : {A : Type 0} (xs ys : List (List A)) → concat (xs ++ ys) ≡ concat xs ++ concat ys
concat_append [] ys = refl
concat_append (x ∷ xs) ys = ap (λ l. x ++ l) (concat_append xs ys) ∙ sym (append_assoc x (concat xs) (concat ys))

-- equally long, one behind the other
equally_long : {A : Type 0} (f : A → List ℕ) (n : ℕ) → ((a : A) → length (f a) ≡ n) → (as' : List A) → length (concat (map f as')) ≡ length as' * n
equally_long f n h [] = sym (zero-mul n)
equally_long f n h (a ∷ as') = omega (arith, length-append (f a) (concat (map f as')), h a, equally_long f n h as', suc-mul (length as') n)

-- ---- an element's arguments

abbrev alone_bytes : Element → List ℕ
alone_bytes a = value_bytes (a ∷ [])

-- so many terms of such a length
element_sum : (b : Base) (m : ℕ) (e : Element) (n : ℕ) → wf_element b m e ≡ true → ((v : ℕ) → n ≡ length (valued_bytes (bytes_of (element_fields e)) v))
    → length (concat (map alone_bytes (arguments e))) ≡ (more_terms (bytes_of (element_fields e)) + 1) * n
element_sum b m (single l u) n w h =
    let one : more_terms (bytes_of (element_fields (single l u))) + 1 ≡ 1 = terms_are b m (single l u) w in
    let e : n ≡ length (bytes_of (element_fields (single l u))) = h 0 ∙ ap length (valued_single l u 0) in
    rw one (omega (arith, ap length (append-nil (alone_bytes (single l u))), ap length (alone_is (single l u))))
element_sum b m (range l r lo up inc) n w h =
    let e : Element = range l r lo up inc in
    let ns : List ℕ = stepping (suc (up - lo)) lo up inc in
    let each : (v : ℕ) → length (alone_bytes (single l (num r 0 v))) ≡ n =
    λ v. ap length (alone_is (single l (num r 0 v)) ∙ sym (valued_range l r lo up inc v)) ∙ sym (h v) in
    let long : length ns ≡ more_terms (bytes_of (element_fields e)) + 1 =
    sym (length-map ns (λ v. single l (num r 0 v))) ∙ arguments_length b e (ok_range b m e w) ∙ sym (terms_are b m e w) in
    ap (λ (x : List (List ℕ)). length (concat x)) (map-map alone_bytes (λ v. single l (num r 0 v)) ns)
    ∙ equally_long (λ v. alone_bytes (single l (num r 0 v))) n each ns ∙ ap (λ (k : ℕ). k * n) long

-- the bytes of the arguments of elements
abbrev pub arguments_size : List Element → ℕ
arguments_size es = length (concat (map alone_bytes (concat (map arguments es))))

size_cons : (e : Element) (es : List Element) → arguments_size (e ∷ es) ≡ length (concat (map alone_bytes (arguments e))) + arguments_size es
size_cons e es =
    ap (λ (x : List (List ℕ)). length (concat x)) (map-append alone_bytes (arguments e) (concat (map arguments es)))
    ∙ ap length (concat_append (map alone_bytes (arguments e)) (map alone_bytes (concat (map arguments es))))
    ∙ length-append (concat (map alone_bytes (arguments e))) (concat (map alone_bytes (concat (map arguments es))))

choices_size : (es : List Element) → length (concat (choices_of es)) ≡ arguments_size es
choices_size [] = refl
choices_size (e ∷ es) = ap (λ (x : List (List ℕ)). length (concat x)) (alone (concat (map arguments (e ∷ es))))

-- ---- the loop: what is counted, and the arguments of the elements from `at` on, are all

pub record Left (rec : List ℕ) (to at len : ℕ) (es : List Element) : Type 0 where
  pub elements : List Element
  pub holds : Holds rec at to elements
  pub is : length (concat (choices_of es)) ≡ len + arguments_size elements

-- no element has more than 2^32 terms
pub record Summing (rec : List ℕ) (from to at len : ℕ) : Type 0 where
  pub value : Value rec at to
  pub behind : from ≤ at
  pub inside : at ≤ to
  pub low : len ≤ 4294967296 * (at - from)
  pub sum : (es : List Element) → Holds rec from to es → Left rec to at len es

pub summing_none : {rec : List ℕ} {from to : ℕ} → Value rec from to → Summing rec from to from 0
summing_none v = record {
  value = v;
  behind = omega arith;
  inside = omega (arith, v.holds.ends);
  low = omega arith;
  sum = λ es h. record { elements = es; holds = h; is = omega (arith, choices_size es) };
}

module _ {rec : List ℕ} {from to at len : ℕ} (v : Summing rec from to at len) where
  pub summing_all : to ≤ at → (es : List Element) → Holds rec from to es → len ≡ length (concat (choices_of es))
  summing_all k es h = let l : Left rec to at len es = v.sum es h in omega (arith, l.is, none_size l.elements l.holds)
    where
      none_size : (bs : List Element) → Holds rec at to bs → arguments_size bs ≡ 0
      none_size [] g = refl
      none_size (b ∷ bs) g = absurd (omega (arith, g.ends, value_cons b bs, element_some b))

  pub summing_less : {end : ℕ} → at < to → ElementTo rec at end → to - end < to - at
  summing_less lt t = omega (arith, element_on v.value lt t)

  module _ {end more n : ℕ} (lt : at < to) (t : ElementTo rec at end) (em : more ≡ more_terms (bytes_in rec at end)) (small : more < 4294967296)
      (en : (u : ℕ) → n ≡ length (valued_bytes (bytes_in rec at end) u)) where
    -- the element that stands there is counted
    next_sum : (es bs : List Element) → Holds rec at to bs → length (concat (choices_of es)) ≡ len + arguments_size bs → Left rec to end (len + (more + 1) * n) es
    next_sum es [] g e = absurd (omega (arith, g.ends))
    next_sum es (b ∷ bs) g e =
        let q : end ≡ at + length (bytes_of (element_fields b)) = end_is b bs g t in
        let x : bytes_in rec at end ≡ bytes_of (element_fields b) = first_bytes b bs g q in
        let s : length (concat (map alone_bytes (arguments b))) ≡ (more_terms (bytes_of (element_fields b)) + 1) * n =
        element_sum g.base g.lead b n (fine_first b bs g q) (λ u. en u ∙ ap (λ (y : List ℕ). length (valued_bytes y u)) x) in
        let m : more ≡ more_terms (bytes_of (element_fields b)) = em ∙ ap more_terms x in
        let m2 : (more + 1) * n ≡ (more_terms (bytes_of (element_fields b)) + 1) * n = ap (λ (k : ℕ). (k + 1) * n) m in
        record { elements = bs; holds = behind_first b bs g q; is = e ∙ omega (arith, size_cons b bs, s, m2) }

    value_next : (bs : List Element) → Holds rec at to bs → Value rec end to × (n ≤ end - at)
    value_next [] g = absurd (omega (arith, g.ends))
    value_next (b ∷ bs) g =
        let q : end ≡ at + length (bytes_of (element_fields b)) = end_is b bs g t in
        let x : bytes_in rec at end ≡ bytes_of (element_fields b) = first_bytes b bs g q in
        (record { elements = bs; holds = behind_first b bs g q }, omega (arith, en 0, valued_short (bytes_in rec at end) 0, ap length x))

    low_next : len + (more + 1) * n ≤ 4294967296 * (end - from)
    low_next =
        let p = value_next v.value.elements v.value.holds in
        let a : (more + 1) * n ≤ 4294967296 * n = mul-le-mul_right n (omega arith) in
        let b : 4294967296 * n ≤ 4294967296 * (end - at) = mul-le-mul_left 4294967296 p.1 in
        omega (arith, v.low, v.behind, element_on v.value lt t)

    pub summing_more : Summing rec from to end (len + (more + 1) * n)
    summing_more =
        let p = value_next v.value.elements v.value.holds in
        record {
          value = p.0;
          behind = omega (arith, v.behind, element_on v.value lt t);
          inside = (element_on v.value lt t).1;
          low = low_next;
          sum = λ es h. let l : Left rec to at len es = v.sum es h in next_sum es l.elements l.holds l.is;
        }

    -- nothing wraps, since a value's end is told in two bytes
    pub summing_fits : to < 65536 → len + (more + 1) * n < 18446744073709551616
    summing_fits k = omega (arith, low_next, element_on v.value lt t)

    pub summing_product : to < 65536 → (more + 1) * n < 18446744073709551616
    summing_product k = omega (arith, summing_fits k)
