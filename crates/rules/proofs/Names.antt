-- M-102: the names of a block differ, told as the reader goes (each against those before it) and as well-formedness does (each against those behind it).
use mathlib.Core.Path.{◌≡◌, refl, sym, ap₂, ◌∙◌, subst}
use mathlib.Core.Bool.{Bool, true, false, ◌&&◌, ◌||◌, not, false≢true}
use mathlib.Core.List.{List, [], ◌∷◌, map}
use Rattle.laws.specs.Cases.{by_bool, conjuncts}
use Rattle.laws.specs.Lists.{all, any, is_nil, eq_l_is, eq_l_refl}
use Rattle.rules.specs.Commands.{Name, Place, block, place_name, same_name}
use Rattle.rules.specs.WellFormed.{wf_place, wf_block, names_differ}

-- ---- the test is equality

pub name_refl : (a : Name) → same_name a a ≡ true
name_refl [] = refl
name_refl (x ∷ xs) = rw (eq_l_refl x, name_refl xs)

pub name_is : (a b : Name) → same_name a b ≡ true → a ≡ b
name_is [] [] h = refl
name_is [] (y ∷ ys) h = absurd (false≢true h)
name_is (x ∷ xs) [] h = absurd (false≢true h)
name_is (x ∷ xs) (y ∷ ys) h =
    ap₂ (λ a l. a ∷ l) (eq_l_is x y (search conjuncts)) (name_is xs ys (search conjuncts))

pub name_sym : (a b : Name) → same_name a b ≡ same_name b a
name_sym a b =
    by_bool (same_name a b)
    (λ y. y ∙ sym (subst (λ z. same_name z a ≡ true) (name_is a b y) (name_refl a)))
    (λ y.
    by_bool (same_name b a)
    (λ z. absurd (false≢true (sym y ∙ subst (λ w. same_name w b ≡ true) (name_is b a z) (name_refl b))))
    (λ z. y ∙ sym z))

-- ---- names behind other names

-- the name does not stand among those before it, if the block is named
abbrev pub free_of : Bool → List Name → Name → Bool
free_of k ns nm = not k || not (any (same_name nm) ns)

abbrev pub fresh : Bool → List Name → List Name → Bool
fresh k ns [] = true
fresh k ns (x ∷ xs) = free_of k ns x && fresh k (x ∷ ns) xs

-- none of the first stands among the second
abbrev pub clear : List Name → List Name → Bool
clear ns xs = all (λ n. not (any (same_name n) xs)) ns

pub clear_none : (ns : List Name) → clear ns [] ≡ true
clear_none [] = refl
clear_none (n ∷ ns) = clear_none ns

pub clear_cons : (x : Name) (xs ns : List Name) → clear ns (x ∷ xs) ≡ true → (not (any (same_name x) ns) ≡ true) × (clear ns xs ≡ true)
clear_cons x xs [] h = (refl, refl)
clear_cons x xs (n ∷ ns) h =
    by_bool (same_name n x)
    (λ y. absurd (false≢true (rw y at h)))
    (λ y.
    let h' : not (any (same_name n) xs) && clear ns (x ∷ xs) ≡ true = rw y at h in
    let ih : (not (any (same_name x) ns) ≡ true) × (clear ns xs ≡ true) = clear_cons x xs ns (search conjuncts) in
    let free : not (any (same_name n) xs) ≡ true = search conjuncts in
    (rw (name_sym x n, y) ih.0, rw free ih.1))

pub cons_clear : (x : Name) (xs ns : List Name) → not (any (same_name x) ns) ≡ true → clear ns xs ≡ true → clear ns (x ∷ xs) ≡ true
cons_clear x xs [] h k = refl
cons_clear x xs (n ∷ ns) h k =
    by_bool (same_name x n)
    (λ y. absurd (false≢true (rw y at h)))
    (λ y. let free : not (any (same_name n) xs) ≡ true = search conjuncts in rw (name_sym n x, y, free) (cons_clear x xs ns (rw y at h) (search conjuncts)))

pub fresh_of : (ns xs : List Name) → clear ns xs ≡ true → names_differ xs ≡ true → fresh true ns xs ≡ true
fresh_of ns [] h d = refl
fresh_of ns (x ∷ xs) h d =
    let c : (not (any (same_name x) ns) ≡ true) × (clear ns xs ≡ true) = clear_cons x xs ns h in
    let free : not (any (same_name x) xs) ≡ true = search conjuncts in
    rw c.0 (fresh_of (x ∷ ns) xs (rw free c.1) (search conjuncts))

pub fresh_is : (ns xs : List Name) → fresh true ns xs ≡ true → (names_differ xs ≡ true) × (clear ns xs ≡ true)
fresh_is ns [] h = (refl, clear_none ns)
fresh_is ns (x ∷ xs) h =
    let ih : (names_differ xs ≡ true) × (clear (x ∷ ns) xs ≡ true) = fresh_is (x ∷ ns) xs (search conjuncts) in
    let behind : not (any (same_name x) xs) && clear ns xs ≡ true = ih.1 in
    let free : not (any (same_name x) xs) ≡ true = search conjuncts in
    (rw free ih.0, cons_clear x xs ns (search conjuncts) (search conjuncts))

pub fresh_none : (ns xs : List Name) → fresh false ns xs ≡ true
fresh_none ns [] = refl
fresh_none ns (x ∷ xs) = fresh_none (x ∷ ns) xs

-- both say the same of a block
pub fresh_names : (k : Bool) (xs : List Name) → not k || names_differ xs ≡ true → fresh k [] xs ≡ true
fresh_names true xs h = fresh_of [] xs refl h
fresh_names false xs h = fresh_none [] xs

pub names_fresh : (k : Bool) (xs : List Name) → fresh k [] xs ≡ true → not k || names_differ xs ≡ true
names_fresh true xs h = (fresh_is [] xs h).0
names_fresh false xs h = refl

-- ---- what a well-formed block has

pub block_places : (k : Bool) (ps : List Place) → wf_block (block k ps) ≡ true → all (wf_place k) ps ≡ true
block_places k ps h = search conjuncts

pub block_names : (k : Bool) (ps : List Place) → wf_block (block k ps) ≡ true → not k || names_differ (map place_name ps) ≡ true
block_names k ps h = search conjuncts

pub block_of_lem : (k : Bool) (ps : List Place) → is_nil ps ≡ false → all (wf_place k) ps ≡ true → not k || names_differ (map place_name ps) ≡ true
    → wf_block (block k ps) ≡ true
block_of_lem k ps h a n = rw (h, a, n)
