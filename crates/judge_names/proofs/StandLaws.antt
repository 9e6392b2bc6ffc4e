-- Whether a name is that of one of some places is told place by place: the first one's bytes are compared, and behind its value stand the others.
use mathlib.Core.Path.{◌≡◌, refl, ap, ◌∙◌, sym}
use mathlib.Core.Bool.{Bool, true, false, not}
use mathlib.Core.List.{List, [], ◌∷◌, ◌++◌, map, map-append}
use Prim.Native.Nat.{ℕ, ◌+◌, ◌-◌, ◌≤◌, ◌<◌}
use native.Mathlib.Omega.{arith}
use lib.ListN.{length, drop, length-drop, drop_of_length-le}
use Rattle.laws.specs.Lists.{eq_l, all_append}
use Rattle.rules.specs.Commands.{Name, Element, Place, place, same_name, place_name}
use Rattle.rules.specs.Records.{name_tag, single_tag, string_tag, bytes_of, many, element_fields, place_fields}
use Rattle.record_walk.specs.Fronts.{tag_of}
use Rattle.rules.proofs.FieldLaws.{bytes_append}
use Rattle.record_walk.specs.Runs.{Whole, bytes_in, RunsTo}
use Rattle.record_walk.proofs.RunLaws.{drop_behind, after_on, element_tags, low_tag}
use Rattle.judge_names.specs.Names.{name_bytes, IsName, NameAt, StandsIn, bytes_key, name_key, all_marked, Meets, Tells}
use Rattle.judge_names.specs.declared.Spot.{Spot}
use Rattle.judge_names.proofs.NameLaws.{bytes_same}
use Rattle.marks.specs.Marks.{marked, added}
use Rattle.marks.specs.declared.Marks.{Marks}
use Rattle.marks.proofs.MarkLaws.{added_marked}
use Rattle.marks.proofs.MetLaws.{not_met, still_marked}
use Rattle.std.specs.Bool.{then_some}
use Rattle.std.specs.Prelude.{Option, Some, None}
use Rattle.laws.specs.Cases.{by_bool}

-- what begins with a place's field, or is nothing
places_tag : (ps : List Place) → tag_of (bytes_of (many place_fields ps)) < name_tag
places_tag [] = omega arith
places_tag (place b nm v ∷ ps) = omega arith

module _ (rec : List ℕ) (at : ℕ) (name : List ℕ) where
  stands_none : length rec ≤ at → StandsIn rec at name false
  stands_none h [] nm e n = refl
  stands_none h (place b m v ∷ ps) nm e n = absurd (omega (arith, ap length e, ap length (drop_of_length-le rec h)))

  module _ {s : Spot} {q : Bool} (k : NameAt rec at s) (c : q ≡ eq_l name (bytes_in rec s.start s.end)) (h : at < length rec) where
    first_there : (p : Place) (ps : List Place) → drop at rec ≡ bytes_of (many place_fields (p ∷ ps)) → drop at rec ≡ bytes_of (place_fields p) ++ bytes_of (many place_fields ps)
    first_there p ps e = e ∙ bytes_append (place_fields p) (many place_fields ps)

    compared : (nm m : Name) (v : List Element) (rest : List ℕ) → name ≡ name_bytes nm → IsName rec s m v rest → q ≡ same_name nm m
    compared nm m v rest n i = c ∙ rw (n, i.bytes) (bytes_same nm m)

    stands_here : q ≡ true → StandsIn rec at name true
    stands_here y [] nm e n = absurd (omega (arith, length-drop at rec, ap length e))
    stands_here y (place b m v ∷ ps) nm e n =
        let i = k.is b m v (bytes_of (many place_fields ps)) (first_there (place b m v) ps e) (places_tag ps) in
        rw (← compared nm m v (bytes_of (many place_fields ps)) n i, y)

    stands_later : {r : Bool} {next : ℕ} → q ≡ false → RunsTo single_tag string_tag rec s.end next → StandsIn rec next name r → StandsIn rec at name r
    stands_later y t g [] nm e n = absurd (omega (arith, length-drop at rec, ap length e))
    stands_later {r} {next} y t g (place b m v ∷ ps) nm e n =
        let rest : List ℕ = bytes_of (many place_fields ps) in
        let vs : List ℕ = bytes_of (many element_fields v) in
        let i = k.is b m v rest (first_there (place b m v) ps e) (places_tag ps) in
        let z : next ≡ s.end + length vs = t.is (many element_fields v) rest i.behind (element_tags v) (low_tag single_tag string_tag (tag_of rest) (omega (arith, places_tag ps))) in
        let d : drop next rec ≡ rest = ap (λ (j : ℕ). drop j rec) z ∙ drop_behind rec s.end vs rest i.behind in
        rw (← compared nm m v rest n i, y) (g ps nm d n)

-- ---- the loop: what is told from here is told from the start

pub record Standing (rec name : List ℕ) (at : ℕ) : Type 0 where
  pub whole : Whole rec at
  pub told : (r : Bool) → StandsIn rec at name r → StandsIn rec 0 name r

pub standing_none : (name : List ℕ) {rec : List ℕ} → Whole rec 0 → Standing rec name 0
standing_none name w = record { whole = w; told = λ r p. p }

module _ {rec name : List ℕ} {at : ℕ} (v : Standing rec name at) where
  pub standing_end : length rec ≤ at → StandsIn rec 0 name false
  standing_end h = v.told false (stands_none rec at name h)

  module _ {s : Spot} {q : Bool} (k : NameAt rec at s) (c : q ≡ eq_l name (bytes_in rec s.start s.end)) (h : at < length rec) where
    pub standing_here : q ≡ true → StandsIn rec 0 name true
    standing_here y = v.told true (stands_here rec at name k c h y)

    pub standing_on : {next : ℕ} → q ≡ false → RunsTo single_tag string_tag rec s.end next → Standing rec name next
    standing_on y t = record { whole = t.whole; told = λ r p. v.told r (stands_later rec at name k c h y t p) }

    -- each turn comes nearer to the end
    pub standing_less : {next : ℕ} → RunsTo single_tag string_tag rec s.end next → length rec - next < length rec - at
    standing_less t = omega (arith, k.from, k.order, t.from, after_on rec at h)

-- ---- marks: with a key more they mark the name of that key too

pub all_marked_lem : (m : Marks) (ps : List Place) (p : Place) → all_marked m ps ≡ true → all_marked (added m (name_key (place_name p))) (ps ++ (p ∷ [])) ≡ true
all_marked_lem m ps p h =
    let j : ℕ = name_key (place_name p) in
    let ns : List Name = map place_name ps in
    rw (map-append place_name ps (p ∷ []))
    (all_append (λ nm. marked (added m j) (name_key nm)) ns (place_name p ∷ []) (still_marked name_key m j ns h) (rw (added_marked m j)))

-- ---- the name is looked for only where its key is marked

pub meets_not : (rec name : List ℕ) (m : Marks) {key : ℕ} {q : Bool} → key ≡ bytes_key name → q ≡ marked m key → q ≡ false → Meets rec name m q
unfolding name_key
meets_not rec name m e c y ps nm b n h = y ∙ sym (not_met name_key m nm (map place_name ps) h (ap (λ (x : List ℕ). marked m (bytes_key x)) (sym n) ∙ ap (marked m) (sym e) ∙ sym c ∙ y))

-- ---- what is told

module _ {rec name : List ℕ} (m : Marks) {key : ℕ} {r : Bool} (e : key ≡ bytes_key name) (g : Meets rec name m r) where
  told_twice : r ≡ true → Tells rec name m None
  told_twice y ps nm b n h = sym (g ps nm b n h) ∙ y

  told_once : r ≡ false → Tells rec name m (Some key)
  unfolding name_key
  told_once y ps nm b n h = (sym (g ps nm b n h) ∙ y, e ∙ ap bytes_key n)

  pub told : {a : Option ℕ} → a ≡ then_some (not r) key → Tells rec name m a
  told q = by_bool r (λ y. rw (q, y) (told_twice y)) (λ y. rw (q, y) (told_once y))
