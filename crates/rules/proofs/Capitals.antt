-- M-109: what is read holds capitals in every keyed numeral, since what is read is well formed and a keyed numeral is so in capitals alone.
use Prim.Native.Nat.{ℕ}
use mathlib.Core.Path.{◌≡◌, refl, subst}
use mathlib.Core.Bool.{Bool, true}
use mathlib.Core.List.{List, [], ◌∷◌, ◌++◌, map}
use native.Mathlib.Omega.{arith}
use lib.ListN.{length}
use Rattle.laws.specs.Cases.{conjuncts}
use Rattle.laws.specs.Keys.{any_of}
use Rattle.laws.specs.Lists.{all, all_append, all_mono, all_map, all_concat, all_member}
use Rattle.rules.specs.Characters.{bytes}
use Rattle.rules.specs.Commands.{Element, Place, place, Block, block, Command, command, leading, last_unit, all_places, element_units, place_units, command_units}
use Rattle.rules.specs.Reading.{read}
use Rattle.rules.specs.Refusals.{ok}
use Rattle.rules.specs.Units.{Base, Unit, num, keyed, identifier, symbolic, text, is_held_key}
use Rattle.rules.specs.WellFormed.{wf_unit, wf_element, wf_value, wf_place, wf_block, well_formed}
use Rattle.rules.proofs.CapitalLaws.{held_low}
use Rattle.rules.proofs.CommandBack.{c_blocks}
use Rattle.rules.proofs.DecodeEncode.{place_value_lem}
use Rattle.rules.proofs.Names.{block_places}
use Rattle.rules.proofs.ReadSound.{read_wf}
use Rattle.rules.proofs.RoundTrip.{all_below, imp, inside}
use Rattle.rules.proofs.ValueBack.{ok_lead, ok_last, v_all}

-- document 01's keyed digits, by list
abbrev pub is_listed : ℕ → Bool
is_listed = any_of (bytes "0123456789*#ABCD")

held_listed : (c : ℕ) → is_held_key c ≡ true → is_listed c ≡ true
unfolding all_below imp
held_listed = inside is_held_key is_listed refl (λ c h. omega (arith, held_low c h))

-- a keyed numeral of these digits alone; any other unit
abbrev in_capitals : Unit → Bool
in_capitals (num r f v) = true
in_capitals (keyed w) = all is_listed w
in_capitals (identifier w) = true
in_capitals (symbolic w) = true
in_capitals (text w) = true

unit_capitals : (b : Base) (i : Unit) → wf_unit b i ≡ true → in_capitals i ≡ true
unit_capitals b (num r f v) h = refl
unit_capitals b (keyed w) h =
    all_mono is_held_key is_listed held_listed w (search conjuncts)
unit_capitals b (identifier w) h = refl
unit_capitals b (symbolic w) h = refl
unit_capitals b (text w) h = refl

element_capitals : (b : Base) (n : ℕ) (e : Element) → wf_element b n e ≡ true → all in_capitals (element_units e) ≡ true
element_capitals b n e h =
    let last : in_capitals (last_unit e) ≡ true = unit_capitals b (last_unit e) (ok_last b n e h) in
    all_append in_capitals (leading e) (last_unit e ∷ []) (all_mono (wf_unit b) in_capitals (unit_capitals b) (leading e) (ok_lead b n e h)) (rw last)

value_capitals : (b : Base) (v : List Element) → wf_value b v ≡ true → all (all in_capitals) (map element_units v) ≡ true
value_capitals b [] h = refl
value_capitals b (e ∷ es) h =
    let n : ℕ = length (leading e) in
    all_map (wf_element b n) (all in_capitals) element_units (element_capitals b n) (e ∷ es) (v_all b e es h)

place_capitals : (k : Bool) (p : Place) → wf_place k p ≡ true → all in_capitals (place_units p) ≡ true
place_capitals k (place b nm v) h = all_concat in_capitals (map element_units v) (value_capitals b v (place_value_lem k b nm v h))

places_capitals : (k : Bool) (ps qs : List Place) → all (wf_place k) ps ≡ true → all (all in_capitals) (map place_units qs) ≡ true
    → all (all in_capitals) (map place_units (ps ++ qs)) ≡ true
places_capitals k [] qs h hq = hq
places_capitals k (p ∷ ps) qs h hq =
    rw (place_capitals k p (search conjuncts)) (places_capitals k ps qs (search conjuncts) hq)

blocks_capitals : (bs : List Block) → all wf_block bs ≡ true → all (all in_capitals) (map place_units (all_places bs)) ≡ true
blocks_capitals [] h = refl
blocks_capitals (block k ps ∷ bs) h =
    places_capitals k ps (all_places bs) (block_places k ps (search conjuncts))
    (blocks_capitals bs (search conjuncts))

well_capitals : (c : Command) → well_formed c ≡ true → all in_capitals (command_units c) ≡ true
well_capitals (command c bs) h = all_concat in_capitals (map place_units (all_places bs)) (blocks_capitals bs (c_blocks c bs h))

pub capitals : (letters text : List ℕ) (c : Command) (before : List Unit) (w : List ℕ) (behind : List Unit)
    → read letters text ≡ ok c → command_units c ≡ before ++ (keyed w ∷ behind) → all (any_of (bytes "0123456789*#ABCD")) w ≡ true
capitals letters t c before w behind h e =
    all_member in_capitals before (keyed w) behind (subst (λ us. all in_capitals us ≡ true) e (well_capitals c (read_wf letters t c h)))
