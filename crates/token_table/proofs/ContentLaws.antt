-- What a function knows that cuts a token's content out of the contents: start and end are in order, inside, near each other, and cut the content out.
use Prim.Native.Nat.{ℕ, ◌+◌, ◌-◌, ◌≤◌, ◌<◌}
use mathlib.Core.Path.{◌≡◌}
use mathlib.Core.Bool.{false}
use mathlib.Core.List.{List, []}
use native.Mathlib.Nat.{add-sub_cancel_left}
use native.Mathlib.Omega.{arith}
use borrow.Author.Tests.{ltb-true, ltb-false, le-ltb}
use lib.Dec.{ltb}
use lib.ListN.{length, take, drop, length-take, length-drop, drop_of_length-le}
use lib.Seq.{take_all}
use Rattle.laws.specs.Cases.{by_bool}
use Rattle.token_table.specs.declared.Token.{Token as Entry}
use Rattle.token_table.specs.Table.{from_in, size_in, content_in, start_in, end_in}

module _ (t : Entry) (n : ℕ) where
  start_end : start_in t n ≤ end_in t n
  start_end =
      by_bool (ltb (from_in t) n)
      (λ y. by_bool (ltb (from_in t + size_in t) n) (λ z. rw (y, z) (omega arith)) (λ z. rw (y, z) (omega (arith, ltb-true (from_in t) n y))))
      (λ y. by_bool (ltb (from_in t + size_in t) n) (λ z. rw (y, z) (omega (arith, ltb-false (from_in t) n y, ltb-true (from_in t + size_in t) n z))) (λ z. rw (y, z) (omega arith)))

  end_inside : end_in t n ≤ n
  end_inside = by_bool (ltb (from_in t + size_in t) n) (λ z. rw z (omega (arith, ltb-true (from_in t + size_in t) n z))) (λ z. rw z (omega arith))

content_part : (cs : List ℕ) (t : Entry) → take (end_in t (length cs) - start_in t (length cs)) (drop (start_in t (length cs)) cs) ≡ content_in cs t
unfolding content_in
content_part cs t =
    let f = from_in t in let z = size_in t in let n = length cs in
    by_bool (ltb f n)
    (λ y. by_bool (ltb (f + z) n)
    (λ x. rw (y, x, add-sub_cancel_left f z))
    (λ x. let h = ltb-false (f + z) n x in
    rw (y, x, take_all (n - f) (drop f cs) (simp length-drop (omega arith)), take_all z (drop f cs) (simp length-drop (omega arith)))))
    (λ y. let h = ltb-false f n y in
    let x : ltb (f + z) n ≡ false = le-ltb (f + z) n (omega arith) in
    rw (y, x, drop_of_length-le cs {i = n} (omega arith), drop_of_length-le cs h, take_all {A = ℕ} z [] (omega arith), take_all {A = ℕ} (n - n) [] (omega arith)))

-- a content is no longer than its token says
pub content_at_most : (cs : List ℕ) (t : Entry) → length (content_in cs t) ≤ size_in t
unfolding content_in
content_at_most cs t = omega (arith, length-take (size_in t) (drop (from_in t) cs))

module _ (cs : List ℕ) (t : Entry) {from to : ℕ} (f : from ≡ start_in t (length cs)) (o : to ≡ end_in t (length cs)) where
  pub cut_ordered : from ≤ to
  cut_ordered = omega (arith, start_end t (length cs))

  pub cut_inside : to ≤ length cs
  cut_inside = omega (arith, end_inside t (length cs))

  pub cut_is : take (to - from) (drop from cs) ≡ content_in cs t
  cut_is = rw (f, o) (content_part cs t)

  pub cut_size : to - from ≡ length (content_in cs t)
  cut_size = rw (← cut_is) (simp (length-take, length-drop) (omega (arith, cut_inside)))

  pub cut_small : size_in t < 65536 → length (take (to - from) (drop from cs)) < 65536
  cut_small h = rw cut_is (omega (arith, content_at_most cs t))
