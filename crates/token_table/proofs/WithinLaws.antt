-- Contents that end at or before m: what is written from m on leaves every token as it is.
use Prim.Native.Nat.{ℕ, zero, suc, ◌+◌, ◌≤◌}
use mathlib.Core.Path.{◌≡◌, refl, ap₂, ◌∙◌}
use mathlib.Core.List.{List, [], ◌∷◌, ◌++◌}
use native.Mathlib.Nat.{le_of_suc-le-suc, not-suc-le-zero}
use native.Mathlib.Omega.{arith}
use lib.ListN.{length, take, drop}
use lib.Seq.{length-take-le, take-append-le, take-take}
use Rattle.rules.specs.Tokens.{at}
use Rattle.token_table.specs.declared.Token.{Token as Entry}
use Rattle.token_table.specs.Table.{kind_in, place_in, from_in, size_in, content_in, lex_of_kind, tokens_in, Within}

pub within_more : (ts : List Entry) (m n : ℕ) (t : Entry) → Within m ts → m ≤ n → from_in t + size_in t ≤ n → Within n (ts ++ (t ∷ []))
within_more [] m n t w h g = (g, tt)
within_more (x ∷ ts) m n t w h g = (omega (arith, w.0), within_more ts m n t w.1 h g)

part_kept : (a n m : ℕ) (cs z : List ℕ) → a + n ≤ m → m ≤ length cs → take n (drop a (take m cs ++ z)) ≡ take n (drop a cs)
part_kept zero n m cs z h k =
    take-append-le n (take m cs) z (omega (arith, length-take-le m cs k)) ∙ take-take n m cs (omega arith)
part_kept (suc a) n zero cs z h k = absurd (omega arith)
part_kept (suc a) n (suc m) [] z h k = absurd (not-suc-le-zero k)
part_kept (suc a) n (suc m) (x ∷ cs) z h k = part_kept a n m cs z (omega arith) (le_of_suc-le-suc k)

pub kept : (ts : List Entry) (m : ℕ) (cs z : List ℕ) → Within m ts → m ≤ length cs → tokens_in (take m cs ++ z) ts ≡ tokens_in cs ts
unfolding content_in
kept [] m cs z w h = refl
kept (t ∷ ts) m cs z w h =
    ap₂ (λ x l. at (place_in t) (lex_of_kind (kind_in t) x) ∷ l) (part_kept (from_in t) (size_in t) m cs z w.0 h) (kept ts m cs z w.1 h)
