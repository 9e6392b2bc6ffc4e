-- What is handed to the library of a command that asks for an argument: of one argument alone its unit fields; and where unit fields alone are handed
-- over, the command has this one argument and nothing else, so that no other argument is asked for than the one that was typed.
use Prim.Native.Nat.{ℕ, ◌-◌}
use native.Mathlib.Omega.{arith}
use mathlib.Core.Path.{◌≡◌, refl, sym, ap, ◌∙◌}
use mathlib.Core.Bool.{Bool, true, false, false≢true}
use mathlib.Core.List.{List, [], ◌∷◌, ◌++◌, map, append_assoc, append-nil}
use lib.ListN.{length, take, length-append}
use lib.Seq.{take_at}
use Rattle.laws.specs.Cases.{some_inj}
use Rattle.laws.specs.Lists.{all, is_nil, all_member}
use Rattle.rules.specs.Characters.{byte}
use Rattle.rules.specs.Units.{Base, Unit, num, keyed, identifier, symbolic, text}
use Rattle.rules.specs.Commands.{Element, single, range, Place, place, Block, block, Command, command}
use Rattle.rules.specs.Records.{name_tag, is_unit, Field, field, unit_field, element_fields, many, place_fields, block_fields, bytes_of, encode, cut_fields, tag}
use Rattle.rules.proofs.DecodeEncode.{cut_all}
use Rattle.rules.proofs.FirstPosition.{bytes_units_lem}
use Rattle.console_figures.specs.Asked.{asked, argument_text, argument_fields}

-- ---- the text

pub text_back : (w : List ℕ) → argument_text (asked w) ≡ w
text_back w =
    let long : length (asked w) - 3 ≡ length w = simp length-append (omega arith) in
    ap (λ (n : ℕ). take n (w ++ byte ";" ∷ [])) long ∙ take_at w (byte ";" ∷ []) (length w) refl

-- ---- fields

same_fields : (fs gs : List Field) → bytes_of fs ≡ bytes_of gs → fs ≡ gs
same_fields fs gs e = some_inj (sym (cut_all fs) ∙ ap (cut_fields tag) e ∙ cut_all gs)

abbrev is_unit_field : Field → Bool
is_unit_field (field t w) = is_unit t

unit_is : (u : Unit) → is_unit_field (unit_field u) ≡ true
unit_is (num r f v) = refl
unit_is (keyed w) = refl
unit_is (identifier w) = refl
unit_is (symbolic w) = refl
unit_is (text w) = refl

all_units : (us : List Unit) → all is_unit_field (map unit_field us) ≡ true
all_units [] = refl
all_units (u ∷ us) = rw (unit_is u) (all_units us)

-- fields that are those of units are a unit's each
units_alone : (fs : List Field) (us : List Unit) → bytes_of fs ≡ bytes_of (map unit_field us) → all is_unit_field fs ≡ true
units_alone fs us e = ap (all is_unit_field) (same_fields fs (map unit_field us) e) ∙ all_units us

-- is the first field a unit's, if there is one?
abbrev head_is_unit : List Field → Bool
head_is_unit [] = true
head_is_unit (f ∷ fs) = is_unit_field f

-- behind other fields none stand that begin with another than a unit's
later : (gs fs : List Field) → head_is_unit fs ≡ false → all is_unit_field (gs ++ fs) ≡ true → ⊥
later gs [] h k = false≢true (sym h)
later gs (f ∷ fs) h k = false≢true (sym h ∙ all_member is_unit_field gs f fs k)

-- ---- the command

-- what is read from `A:`, a text and `;` has a code of one letter, and a block that begins with a place; other places and blocks may follow

abbrev pub asking : ℕ → Bool → Base → List (List ℕ) → List Element → List Place → List Block → Command
asking x k b nm v ps bs = command ((x ∷ []) ∷ []) (block k (place b nm v ∷ ps) ∷ bs)

-- of one argument alone the fields of its units
pub one_argument : (x : ℕ) (k : Bool) (b : Base) (l : List Unit) (u : Unit)
    → argument_fields (encode (asking x k b [] (single l u ∷ []) [] [])) ≡ bytes_of (map unit_field (l ++ (u ∷ [])))
one_argument x k b l u = let us = map unit_field (l ++ (u ∷ [])) in ap bytes_of (append-nil ((us ++ []) ++ []) ∙ append-nil (us ++ []) ∙ append-nil us)

-- what the command is where the fields of these units are handed over
pub record Alone (us : List Unit) (nm : List (List ℕ)) (v : List Element) (ps : List Place) (bs : List Block) : Type 0 where
  pub leading : List Unit
  pub last : Unit
  pub units : leading ++ (last ∷ []) ≡ us
  pub value : v ≡ single leading last ∷ []
  pub no_name : nm ≡ []
  pub no_place : ps ≡ []
  pub no_block : bs ≡ []

-- the fields of an argument
abbrev units_of : List Unit → Unit → List Field
units_of l u = map unit_field (l ++ (u ∷ []))

-- all fields from where the value begins
abbrev value_fields : List (List ℕ) → List Element → List Place → List Block → List Field
value_fields nm v ps bs = ((map (λ w. field name_tag w) nm ++ many element_fields v) ++ many place_fields ps) ++ many block_fields bs

module _ (x : ℕ) (k : Bool) (b : Base) (i : Unit) (is : List Unit) where
  -- fields of which not all are a unit's are not handed over
  other : (fs : List Field) → all is_unit_field fs ≡ false → bytes_of fs ≡ bytes_of (map unit_field (i ∷ is)) → ⊥
  other fs h e = false≢true (sym h ∙ units_alone fs (i ∷ is) e)

  -- behind the units of a single element nothing stands that begins with another field than a unit's
  more : (l : List Unit) (u : Unit) (es : List Element) (ps : List Place) (bs : List Block) → head_is_unit (value_fields [] es ps bs) ≡ false
      → bytes_of (((units_of l u ++ many element_fields es) ++ many place_fields ps) ++ many block_fields bs) ≡ bytes_of (map unit_field (i ∷ is)) → ⊥
  more l u es ps bs h e =
      let fs = units_of l u in
      let ms = many element_fields es in
      let qs = many place_fields ps in
      let ds = many block_fields bs in
      let one : ((fs ++ ms) ++ qs) ++ ds ≡ fs ++ ((ms ++ qs) ++ ds) = ap (λ (gs : List Field). gs ++ ds) (append_assoc fs ms qs) ∙ append_assoc fs (ms ++ qs) ds in
      later fs ((ms ++ qs) ++ ds) h (ap (all is_unit_field) (sym one) ∙ units_alone (((fs ++ ms) ++ qs) ++ ds) (i ∷ is) e)

  pub nothing_else : (nm : List (List ℕ)) (v : List Element) (ps : List Place) (bs : List Block)
      → argument_fields (encode (asking x k b nm v ps bs)) ≡ bytes_of (map unit_field (i ∷ is)) → Alone (i ∷ is) nm v ps bs
  nothing_else (n ∷ nm) v ps bs e = absurd (other (value_fields (n ∷ nm) v ps bs) refl e)
  nothing_else [] [] [] [] e = absurd (false≢true (ap is_nil (same_fields (map unit_field (i ∷ is)) [] (sym e))))
  nothing_else [] [] [] (block d qs ∷ bs) e = absurd (other (value_fields [] [] [] (block d qs ∷ bs)) refl e)
  nothing_else [] [] (place c ms w ∷ ps) bs e = absurd (other (value_fields [] [] (place c ms w ∷ ps) bs) refl e)
  nothing_else [] (range l r lo up inc ∷ es) ps bs e = absurd (other (value_fields [] (range l r lo up inc ∷ es) ps bs) refl e)
  nothing_else [] (single l u ∷ single m j ∷ es) ps bs e = absurd (more l u (single m j ∷ es) ps bs refl e)
  nothing_else [] (single l u ∷ range m r lo up inc ∷ es) ps bs e = absurd (more l u (range m r lo up inc ∷ es) ps bs refl e)
  nothing_else [] (single l u ∷ []) (place c ms w ∷ ps) bs e = absurd (more l u [] (place c ms w ∷ ps) bs refl e)
  nothing_else [] (single l u ∷ []) [] (block d qs ∷ bs) e = absurd (more l u [] [] (block d qs ∷ bs) refl e)
  nothing_else [] (single l u ∷ []) [] [] e =
      record {
        leading = l;
        last = u;
        units = bytes_units_lem (l ++ (u ∷ [])) (i ∷ is) (sym (one_argument x k b l u) ∙ e);
        value = refl;
        no_name = refl;
        no_place = refl;
        no_block = refl;
      }
