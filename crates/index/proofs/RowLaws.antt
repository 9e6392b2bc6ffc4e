-- The walk over a record's fields: the offsets that were passed and those of the fields that are left are all of them. A place's fields end where no name, element or unit stands any more.
use mathlib.Core.Path.{◌≡◌, refl, sym, ap, ◌∙◌}
use mathlib.Core.Bool.{Bool, true, false, false≢true}
use mathlib.Core.List.{List, [], ◌∷◌, ◌++◌, map, append_assoc, append-nil}
use Prim.Native.Nat.{ℕ, suc, ◌+◌, ◌-◌, ◌≤◌, ◌<◌}
use native.Mathlib.Omega.{arith}
use borrow.Author.Tests.{eq-eqb, ne_eqb, ltb-true, ltb-false, leb-true, le-leb}
use lib.Dec.{eqb, ltb, leb}
use lib.ListN.{length, get_or, drop, set, length-append, length-drop, length-set, drop_of_length-le}
use lib.Seq.{drop_at}
use Rattle.laws.specs.Cases.{by_bool, and_l, and_r}
use Rattle.laws.specs.Lists.{all, all_append, all_mono, next}
use Rattle.laws.specs.Over.{over, over_byte}
use Rattle.rules.specs.Refusals.{ok, most_places}
use Rattle.rules.specs.Units.{letter}
use Rattle.rules.specs.Commands.{Place, place, Command}
use Rattle.rules.specs.Records.{Field, field, place_tag, name_tag, single_tag, string_tag, many, element_fields, place_fields, field_bytes, bytes_of, fields_of, head_size}
use Rattle.rules.specs.WellFormed.{record_of}
use Rattle.rules.specs.Indexes.{starts_from, offsets, agreeing}
use Rattle.rules.proofs.EncodeDecode.{IsRecord, record_is}
use Rattle.rules.proofs.FieldLaws.{bytes_append}
use Rattle.rules.proofs.RecordBound.{record_bound}
use Rattle.rules.proofs.ResultLaws.{ok_inj}
use Rattle.rules.proofs.RowPoints.{StandsAt, offsets_most}
use Rattle.record_walk.specs.Fronts.{tag_of}
use Rattle.record_walk.specs.Runs.{Whole, field_size, tag_in, RunsTo}
use Rattle.record_walk.proofs.RunLaws.{drop_behind, stands_inside, after_field, behind_field, after_on, element_tags, low_tag}
use Rattle.record_walk.proofs.WalkLaws.{tag_there}
use Rattle.index.specs.Rows.{WellFormed, Indexable, Fills, is_right, Agrees, HasPlace, EndsAt}

-- ---- the walk

-- at a field's beginning, with these offsets passed
pub record Passing (rec : List ℕ) (c : Command) (at : ℕ) (done : List ℕ) : Type 0 where
  pub left : List Field
  pub stands : drop at rec ≡ bytes_of left
  pub inside : at ≤ length rec
  pub all : offsets c ≡ done ++ starts_from at left
  pub small : length rec ≤ 65536
  pub most : length (offsets c) ≤ most_places

pub passing_none : (rec : List ℕ) (c : Command) → record_of rec ≡ ok c → Passing rec c head_size []
unfolding offsets
passing_none rec c h =
    let is : IsRecord rec c = record_is rec c h in
    record {
      left = fields_of c;
      stands = ap (drop head_size) (sym is.bytes);
      inside = omega (arith, ap length is.bytes);
      all = refl;
      small = omega (arith, ap length is.bytes, record_bound c is.well);
      most = offsets_most c is.well;
    }

-- the field that stands there
record Here (rec : List ℕ) (c : Command) (at : ℕ) (done : List ℕ) : Type 0 where
  tag : ℕ
  content : List ℕ
  others : List Field
  is : drop at rec ≡ field_bytes (field tag content) ++ bytes_of others
  own : get_or rec at 0 ≡ tag
  all : offsets c ≡ done ++ starts_from at (field tag content ∷ others)

here : {rec : List ℕ} {c : Command} {at : ℕ} {done : List ℕ} → Passing rec c at done → at < length rec → Here rec c at done
here {rec} {c} {at} {done} v h = go v.left v.stands v.all
  where
    go : (fs : List Field) → drop at rec ≡ bytes_of fs → offsets c ≡ done ++ starts_from at fs → Here rec c at done
    go [] e a = absurd (omega (arith, ap length e, length-drop at rec))
    go (field t w ∷ fs) e a = record { tag = t; content = w; others = fs; is = e; own = sym (tag_there rec at) ∙ ap tag_of e; all = a }

module _ {rec : List ℕ} {c : Command} {at : ℕ} {done : List ℕ} (v : Passing rec c at done) where
  module _ (h : at < length rec) {next : ℕ} (e : next ≡ at + field_size (drop at rec)) where
    abbrev there : Here rec c at done
    there = here v h

    abbrev own : Field
    own = field there.tag there.content

    next_is_lem : next ≡ at + length (field_bytes own)
    next_is_lem = e ∙ after_field rec at own (bytes_of there.others) there.is

    passed : {now : List ℕ} → done ++ starts_from at (own ∷ there.others) ≡ now ++ starts_from next there.others → Passing rec c next now
    passed q = record {
      left = there.others;
      stands = ap (λ (n : ℕ). drop n rec) e ∙ behind_field rec at own (bytes_of there.others) there.is;
      inside = omega (arith, next_is_lem, stands_inside rec at (field_bytes own) (bytes_of there.others) there.is v.inside);
      all = there.all ∙ q;
      small = v.small;
      most = v.most;
    }

    -- a place begins there
    passing_place : get_or rec at 0 ≡ place_tag → Passing rec c next (done ++ (at ∷ []))
    passing_place t =
        let y : eqb there.tag place_tag ≡ true = eq-eqb there.tag place_tag (sym there.own ∙ t) in
        passed (rw (y, ← next_is_lem) (sym (append_assoc done (at ∷ []) (starts_from next there.others))))

    -- any other field
    passing_other : (get_or rec at 0 ≡ place_tag → ⊥) → Passing rec c next done
    passing_other t =
        let y : eqb there.tag place_tag ≡ false = ne_eqb there.tag place_tag (λ q. t (there.own ∙ q)) in
        passed (rw (y, ← next_is_lem))

  -- no more are passed than there may be places
  passing_few : length done ≤ most_places
  passing_few = omega (arith, ap length v.all, length-append done (starts_from at v.left), v.most)

  -- an offset is still to be passed
  passing_some : at < length rec → get_or rec at 0 ≡ place_tag → (rest : List ℕ) × (offsets c ≡ done ++ (at ∷ rest))
  passing_some h t =
      let x : Here rec c at done = here v h in
      let y : eqb x.tag place_tag ≡ true = eq-eqb x.tag place_tag (sym x.own ∙ t) in
      (starts_from (at + length (field_bytes (field x.tag x.content))) x.others, x.all ∙ rw y)

  passing_all : length rec ≤ at → offsets c ≡ done
  passing_all h = go v.left v.stands v.all
    where
      go : (fs : List Field) → drop at rec ≡ bytes_of fs → offsets c ≡ done ++ starts_from at fs → offsets c ≡ done
      go [] e a = a ∙ append-nil done
      go (field t w ∷ fs) e a = absurd (omega (arith, ap length e, length-drop at rec))

-- each turn comes nearer to the end
pub walk_less : (rec : List ℕ) (at : ℕ) {next : ℕ} → at < length rec → next ≡ at + field_size (drop at rec) → length rec - next < length rec - at
walk_less rec at k n = omega (arith, after_on rec at k)

-- ---- the row filled

pub record Filling (rec old : List ℕ) (at i : ℕ) (row : List ℕ) : Type 0 where
  pub tree : Command
  pub is : record_of rec ≡ ok tree
  pub done : List ℕ
  pub passing : Passing rec tree at done
  pub size : length done ≡ i
  pub few : i ≤ most_places
  pub holds : row ≡ over done old
  pub long : length row ≡ length old
  pub room : length (offsets tree) ≤ length old

pub filling_none : {rec old : List ℕ} → Indexable rec (length old) → Filling rec old head_size 0 old
filling_none {rec} d = record {
  tree = d.tree;
  is = d.is;
  done = [];
  passing = passing_none rec d.tree d.is;
  size = refl;
  few = omega arith;
  holds = refl;
  long = refl;
  room = d.room;
}

module _ {rec old row : List ℕ} {at i : ℕ} (v : Filling rec old at i row) where
  module _ (h : at < length rec) where
    pub filling_room : get_or rec at 0 ≡ place_tag → i < length row
    filling_room t =
        let x = passing_some v.passing h t in
        omega (arith, ap length x.1, length-append v.done (at ∷ x.0), v.size, v.long, v.room)

    pub filling_place : {next : ℕ} → get_or rec at 0 ≡ place_tag → next ≡ at + field_size (drop at rec) → Filling rec old next (i + 1) (set row i at)
    filling_place t e = record {
      tree = v.tree;
      is = v.is;
      done = v.done ++ (at ∷ []);
      passing = passing_place v.passing h e t;
      size = length-append v.done (at ∷ []) ∙ omega (arith, v.size);
      few = omega (arith, passing_few (passing_place v.passing h e t), length-append v.done (at ∷ []), v.size);
      holds = ap (λ (x : List ℕ). set x i at) v.holds ∙ over_byte v.done old at i v.size (omega (arith, filling_room t, v.long));
      long = length-set row i at ∙ v.long;
      room = v.room;
    }

    pub filling_other : {next : ℕ} → (get_or rec at 0 ≡ place_tag → ⊥) → next ≡ at + field_size (drop at rec) → Filling rec old next i row
    filling_other t e = record {
      tree = v.tree;
      is = v.is;
      done = v.done;
      passing = passing_other v.passing h e t;
      size = v.size;
      few = v.few;
      holds = v.holds;
      long = v.long;
      room = v.room;
    }

  pub filling_all : length rec ≤ at → Fills rec old row
  filling_all h c e =
      let same : v.tree ≡ c = ok_inj (sym v.is ∙ e) in
      v.holds ∙ ap (λ (x : List ℕ). over x old) (sym (passing_all v.passing h) ∙ ap offsets same)

-- ---- the row compared

-- what is right from here on, behind i slots that are right, is right from the start
pub record Comparing (rec row : List ℕ) (at i : ℕ) : Type 0 where
  pub tree : Command
  pub is : record_of rec ≡ ok tree
  pub done : List ℕ
  pub passing : Passing rec tree at done
  pub size : length done ≡ i
  pub few : i ≤ most_places
  pub right : (os : List ℕ) → agreeing (done ++ os) row ≡ i + agreeing os (drop i row)

pub comparing_none : {rec : List ℕ} (row : List ℕ) → WellFormed rec → Comparing rec row head_size 0
comparing_none {rec} row d = record { tree = d.tree; is = d.is; done = []; passing = passing_none rec d.tree d.is; size = refl; few = omega arith; right = λ os. omega arith }

-- one slot more that is right; and one that is not
module _ (row : List ℕ) (i at : ℕ) (os : List ℕ) where
  one_right : is_right row i at ≡ true → agreeing (at ∷ os) (drop i row) ≡ suc (agreeing os (drop (i + 1) row))
  unfolding is_right
  one_right h =
      by_bool (ltb i (length row))
      (λ y. let z : eqb (get_or row i 0) at ≡ true = rw y at h in rw (next row i (ltb-true i (length row) y), z))
      (λ y. absurd (false≢true (rw y at h)))

  one_off : is_right row i at ≡ false → agreeing (at ∷ os) (drop i row) ≡ 0
  unfolding is_right
  one_off h =
      by_bool (ltb i (length row))
      (λ y. let z : eqb (get_or row i 0) at ≡ false = rw y at h in rw (next row i (ltb-true i (length row) y), z))
      (λ y. let few : length row ≤ i = omega (arith, ltb-false i (length row) y) in rw (drop_of_length-le row few))

module _ {rec row : List ℕ} {at i : ℕ} (v : Comparing rec row at i) where
  answer_is : {r : ℕ} → agreeing (offsets v.tree) row ≡ r → Agrees rec row r
  answer_is q c e = let same : v.tree ≡ c = ok_inj (sym v.is ∙ e) in sym q ∙ ap (λ (x : Command). agreeing (offsets x) row) same

  module _ (h : at < length rec) where
    pub comparing_other : {next : ℕ} → (get_or rec at 0 ≡ place_tag → ⊥) → next ≡ at + field_size (drop at rec) → Comparing rec row next i
    comparing_other t e = record { tree = v.tree; is = v.is; done = v.done; passing = passing_other v.passing h e t; size = v.size; few = v.few; right = v.right }

    module _ (t : get_or rec at 0 ≡ place_tag) {b : Bool} (q : b ≡ is_right row i at) where
      pub comparing_place : {next : ℕ} → b ≡ true → next ≡ at + field_size (drop at rec) → Comparing rec row next (i + 1)
      comparing_place y e = record {
        tree = v.tree;
        is = v.is;
        done = v.done ++ (at ∷ []);
        passing = passing_place v.passing h e t;
        size = length-append v.done (at ∷ []) ∙ omega (arith, v.size);
        few = omega (arith, passing_few (passing_place v.passing h e t), length-append v.done (at ∷ []), v.size);
        right = λ os.
            ap (λ (x : List ℕ). agreeing x row) (append_assoc v.done (at ∷ []) os) ∙ v.right (at ∷ os)
            ∙ ap (λ (n : ℕ). i + n) (one_right row i at os (sym q ∙ y)) ∙ omega arith;
      }

      pub comparing_off : b ≡ false → Agrees rec row i
      comparing_off y =
          let x = passing_some v.passing h t in
          answer_is (ap (λ (l : List ℕ). agreeing l row) x.1 ∙ v.right (at ∷ x.0) ∙ ap (λ (n : ℕ). i + n) (one_off row i at x.0 (sym q ∙ y)) ∙ omega arith)

  pub comparing_all : length rec ≤ at → Agrees rec row i
  comparing_all h =
      answer_is
      (ap (λ (l : List ℕ). agreeing l row) (passing_all v.passing h ∙ sym (append-nil v.done)) ∙ v.right [] ∙ omega arith)

-- ---- a place's fields

-- its own bytes, and the fields of its name and its value
abbrev own_bytes : Place → List ℕ
own_bytes (place b nm v) = field_bytes (field place_tag (letter b ∷ []))

abbrev inner : Place → List Field
inner (place b nm v) = map (λ w. field name_tag w) nm ++ many element_fields v

own_long : (p : Place) → length (own_bytes p) ≡ 4
own_long (place b nm v) = refl

place_long : (p : Place) → length (bytes_of (place_fields p)) ≡ 4 + length (bytes_of (inner p))
place_long (place b nm v) = omega arith

own_first : (rec : List ℕ) (at : ℕ) (p : Place) (rest : List ℕ) → drop at rec ≡ bytes_of (place_fields p) ++ rest → drop at rec ≡ own_bytes p ++ (bytes_of (inner p) ++ rest)
own_first rec at (place b nm v) rest e = e

wide : (low : ℕ) (f : Field) → name_tag ≤ low → tag_in low string_tag f ≡ true → tag_in name_tag string_tag f ≡ true
wide low (field t w) h k =
    let above : low ≤ t = leb-true low t (and_l (leb low t) (leb t string_tag) k) in
    rw (le-leb name_tag t (omega arith), and_r (leb low t) (leb t string_tag) k)

names_in : (nm : List (List ℕ)) → all (tag_in name_tag string_tag) (map (λ w. field name_tag w) nm) ≡ true
names_in [] = refl
names_in (w ∷ nm) = names_in nm

inner_tags : (p : Place) → all (tag_in name_tag string_tag) (inner p) ≡ true
inner_tags (place b nm v) =
    all_append (tag_in name_tag string_tag) (map (λ w. field name_tag w) nm) (many element_fields v) (names_in nm)
    (all_mono (tag_in single_tag string_tag) (tag_in name_tag string_tag) (λ f. wide single_tag f (omega arith)) (many element_fields v) (element_tags v))

module _ {rec : List ℕ} {at : ℕ} (p : Place) (t : StandsAt p rec at) where
  abbrev rest : List ℕ
  rest = bytes_of t.behind

  stands : drop at rec ≡ own_bytes p ++ (bytes_of (inner p) ++ rest)
  stands =
      own_first rec at p rest
      (ap (drop at) t.is ∙ drop_at t.before (bytes_of (place_fields p) ++ rest) at t.size)

  inside : at ≤ length rec
  inside = omega (arith, ap length t.is, length-append t.before (bytes_of (place_fields p) ++ rest), t.size)

  behind_own : drop (at + 4) rec ≡ bytes_of (inner p) ++ rest
  behind_own = ap (λ (n : ℕ). drop (at + n) rec) (sym (own_long p)) ∙ drop_behind rec at (own_bytes p) (bytes_of (inner p) ++ rest) stands

  whole_behind : Whole rec (at + 4)
  whole_behind = record {
    fs = inner p ++ t.behind;
    is = behind_own ∙ sym (bytes_append (inner p) t.behind);
    inside = omega (arith, own_long p, stands_inside rec at (own_bytes p) (bytes_of (inner p) ++ rest) stands inside);
  }

pub stands_whole : {rec : List ℕ} {at : ℕ} → HasPlace rec at → Whole rec (at + 4)
stands_whole s = whole_behind s.p s.there

pub stands_fits : {rec : List ℕ} {at : ℕ} → HasPlace rec at → at + 4 ≤ length rec
stands_fits s = (stands_whole s).inside

pub ends_at : {rec : List ℕ} {at r : ℕ} → RunsTo name_tag string_tag rec (at + 4) r → EndsAt rec at r
ends_at {rec} {at} k p t =
    k.is (inner p) (bytes_of t.behind) (behind_own p t) (inner_tags p) (low_tag name_tag string_tag (tag_of (bytes_of t.behind)) t.ends)
    ∙ omega (arith, place_long p)
