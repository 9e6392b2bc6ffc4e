-- Fields one behind the other: their bytes are those of the parts, one behind the other. Four bytes, read as a number and written again, are those bytes.
use mathlib.Core.Path.{◌≡◌, refl, sym, ap, ◌∙◌}
use mathlib.Core.List.{List, [], ◌∷◌, ◌++◌, map, append_assoc}
use Prim.Native.Nat.{ℕ, ◌+◌, ◌*◌, ◌/◌, ◌%◌, ◌^◌, ◌<◌}
use native.Mathlib.Omega.{arith}
use Rattle.rules.specs.Records.{Field, four_bytes, field_bytes, bytes_of, many}

pub bytes_append : (xs ys : List Field) → bytes_of (xs ++ ys) ≡ bytes_of xs ++ bytes_of ys
bytes_append [] ys = refl
bytes_append (x ∷ xs) ys = rw (bytes_append xs ys) (sym (append_assoc (field_bytes x) (bytes_of xs) (bytes_of ys)))

-- one field for each
pub many_map : {A : Type 0} (f : A → Field) (as' : List A) → many (λ a. f a ∷ []) as' ≡ map f as'
many_map f [] = refl
many_map f (a ∷ as') = ap (λ (l : List Field). f a ∷ l) (many_map f as')

pub many_append : {A : Type 0} (g : A → List Field) (xs ys : List A) → many g (xs ++ ys) ≡ many g xs ++ many g ys
many_append g [] ys = refl
many_append g (x ∷ xs) ys = ap (λ (fs : List Field). g x ++ fs) (many_append g xs ys) ∙ sym (append_assoc (g x) (many g xs) (many g ys))

-- the bytes of several, the first of them apart, and what stands behind
pub bytes_cons : {A : Type 0} (g : A → List Field) (a : A) (as' : List A) (rest : List ℕ)
    → bytes_of (many g (a ∷ as')) ++ rest ≡ bytes_of (g a) ++ (bytes_of (many g as') ++ rest)
bytes_cons g a as' rest = rw (bytes_append (g a) (many g as')) (append_assoc (bytes_of (g a)) (bytes_of (many g as')) rest)

pub four_bytes_lem : (a b c d : ℕ) → b < 256 → c < 256 → d < 256 → four_bytes (a * 2 ^ 24 + b * 2 ^ 16 + c * 256 + d) ≡ a ∷ b ∷ c ∷ d ∷ []
four_bytes_lem a b c d hb hc hd =
    let v : ℕ = a * 2 ^ 24 + b * 2 ^ 16 + c * 256 + d in
    let e1 : v / 2 ^ 24 ≡ a = omega arith in
    let e2 : v / 2 ^ 16 % 256 ≡ b = omega arith in
    let e3 : v / 256 % 256 ≡ c = omega arith in
    let e4 : v % 256 ≡ d = omega arith in
    rw (e1, e2, e3, e4)
