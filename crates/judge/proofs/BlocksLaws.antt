-- Blocks from the front: a block's kind is its field's letter, its places stand behind; each turn of the loop over blocks reads one more.
use mathlib.Core.Path.{◌≡◌, refl, sym, ap, ap₂, ◌∙◌}
use mathlib.Core.Bool.{Bool, true, false, false≢true}
use mathlib.Core.List.{List, [], ◌∷◌, ◌++◌, map, append_assoc, append-nil}
use mathlib.Core.Option.{none, some}
use Prim.Native.Nat.{ℕ, suc, ◌+◌, ◌-◌, ◌*◌, ◌≤◌, ◌<◌}
use native.Mathlib.Omega.{arith}
use borrow.Author.Tests.{eq-eqb, ne_eqb, leb-true, leb-false}
use lib.Dec.{eqb, leb}
use lib.ListN.{length, get_or, take, drop, length-append, drop_of_length-le}
use lib.Seq.{drop-cons}
use Rattle.laws.specs.Cases.{by_bool}
use Rattle.rules.specs.Characters.{byte}
use Rattle.rules.specs.Refusals.{most_blocks, most_places, most_orders}
use Rattle.rules.specs.Commands.{mult, Block, block, places_of, all_places}
use Rattle.rules.specs.Records.{block_tag, many, block_fields, kind_of_byte}
use Rattle.rules.specs.Orders.{block_count}
use Rattle.record_walk.specs.Tags.{number}
use Rattle.record_walk.specs.declared.Field.{Field}
use Rattle.record_walk.specs.Fields.{fits, field_at}
use Rattle.record_walk.specs.Fronts.{head_tag, before, several}
use Rattle.record_walk.specs.Spans.{size, place_spans, block_head, block_spans}
use Rattle.record_walk.proofs.RunLaws.{size_append}
use Rattle.record_walk.proofs.WalkLaws.{Lettered, lettered, nothing_there, tag_inside}
use Rattle.rules.proofs.FieldLaws.{many_append}
use Rattle.record_walk.proofs.FrontLaws.{before_nil, going_end, going_full, going_bad, going_more}
use Rattle.judge_place.specs.Places.{is_tag}
use Rattle.judge.specs.Blocks.{places, is_kind, next_block, with_block, some_blocks, blocks}
use Rattle.judge.specs.Judged.{per_place, row_length, PlacesAre, IsPlaces, BlockIs, IsBlock, BlocksAre, IsBlocks}
use Rattle.judge.proofs.RecordBytes.{state}
use Rattle.judge.proofs.SpanLaws.{block_spans_more}
use Rattle.judge.specs.declared.Places.{Places}
use Rattle.judge.specs.declared.Judged.{Judged}
use Rattle.std.specs.Bool.{then_some}
use Rattle.std.proofs.Common.{Option, Some, None}

-- ---- one block

kind_yes : (c : ℕ) → is_kind c ≡ true → kind_of_byte (c ∷ []) ≡ some (eqb c (byte "N"))
unfolding is_kind
kind_yes c h =
    by_bool (eqb c (byte "N")) (λ y. rw y)
    (λ y. by_bool (eqb c (byte "P")) (λ z. rw (y, z)) (λ z. absurd (false≢true (rw (y, z) at h))))

kind_no : (c : ℕ) → is_kind c ≡ false → kind_of_byte (c ∷ []) ≡ none
unfolding is_kind
kind_no c h =
    by_bool (eqb c (byte "N")) (λ y. absurd (false≢true (sym (rw y at h))))
    (λ y. by_bool (eqb c (byte "P")) (λ z. absurd (false≢true (sym (rw (y, z) at h)))) (λ z. rw (y, z)))

pub block_inside : (rec : List ℕ) (at : ℕ) → head_tag (drop at rec) ≡ block_tag → at ≤ length rec
block_inside rec at h = omega (arith, tag_inside rec at (omega arith))

pub block_gone : (rec : List ℕ) (at n o : ℕ) {r : Option Field} → r ≡ None → r ≡ field_at rec at → next_block (state n o) (drop at rec) ≡ none
unfolding next_block
block_gone rec at n o e q = rw (nothing_there rec at e q)

module _ (rec : List ℕ) (at : ℕ) {r : Option Field} {f : Field} (e : r ≡ Some f) (q : r ≡ field_at rec at) (two : head_tag (drop at rec) ≡ block_tag) where
  abbrev s : ℕ
  s = f.start

  abbrev j : ℕ
  j = f.next

  letter : Lettered rec at (number f.tag) s j
  unfolding fits
  letter = lettered rec at block_tag (λ n. refl) e q two

  pub behind_inside : j ≤ length rec
  behind_inside = letter.own.inside

  pub kind_inside : s < length rec
  kind_inside = letter.here

  block_field : j ≡ at + block_head
  block_field = omega (arith, letter.own.start, letter.own.ends, letter.one)

  pub block_no : (n o : ℕ) {y : Bool} → y ≡ is_kind (get_or rec s 0) → y ≡ false → next_block (state n o) (drop at rec) ≡ none
  unfolding next_block
  block_no n o kind h = rw (letter.own.is, letter.content, kind_no (get_or rec s 0) (sym kind ∙ h))

  module _ (n o : ℕ) {y : Bool} (kind : y ≡ is_kind (get_or rec s 0)) (h : y ≡ true) where
    block_none : places (eqb (get_or rec s 0) (byte "N")) (most_places - n) o (drop j rec) ≡ none → next_block (state n o) (drop at rec) ≡ none
    unfolding next_block
    block_none q = rw (letter.own.is, letter.content, kind_yes (get_or rec s 0) (sym kind ∙ h), q)

    block_is : (old new : List ℕ) {n' o' k : ℕ} → PlacesAre (eqb (get_or rec s 0) (byte "N")) rec j n o old new n' o' k → BlockIs rec at n o old new n' o' k
    unfolding next_block
    block_is old new p =
        record {
          b = block (eqb (get_or rec s 0) (byte "N")) p.ps;
          is = rw (letter.own.is, letter.content, kind_yes (get_or rec s 0) (sym kind ∙ h), p.is);
          inside = p.inside;
          number = p.number;
          few = p.few;
          orders = p.orders;
          small = p.small;
          ends = omega (arith, p.ends, block_field);
          long = p.long;
          told = λ l. p.told l ∙ ap (λ (x : ℕ). take (per_place * n) old ++ place_spans x p.ps) block_field;
        }

    pub block_as : (old new : List ℕ) (r : Option Places) → IsPlaces (eqb (get_or rec s 0) (byte "N")) rec j n o old new r → IsBlock rec at n o old new r
    block_as old new (Some r) p = block_is old new p
    block_as old new None p = block_none p

-- ---- the loop over blocks

places_snoc : (bs : List Block) (b : Block) → all_places (bs ++ (b ∷ [])) ≡ all_places bs ++ places_of b
places_snoc [] b = append-nil (places_of b)
places_snoc (x ∷ bs) b = rw (places_snoc bs b) (sym (append_assoc (places_of x) (all_places bs) (places_of b)))

count_snoc : (bs : List Block) (b : Block) → mult (map block_count (bs ++ (b ∷ []))) ≡ mult (map block_count bs) * block_count b
count_snoc [] b = omega arith
count_snoc (x ∷ bs) b = rw (count_snoc bs b) (omega arith)

-- `done` was read up to `at`, at most `left` more may stand there: so many places and orders, and where the values stand is told in `row`
pub record BlocksRead (rec : List ℕ) (from : ℕ) (old row : List ℕ) (at left n o : ℕ) : Type 0 where
  pub done : List Block
  pub is : some_blocks (drop from rec) ≡ before done (several (is_tag block_tag) next_block with_block left (state n o) (drop at rec))
  pub inside : at ≤ length rec
  pub number : n ≡ length (all_places done)
  pub few : n ≤ most_places
  pub orders : o ≡ mult (map block_count done)
  pub small : o ≤ most_orders
  pub ends : at ≡ from + size (many block_fields done)
  pub long : length row ≡ length old
  pub told : row_length ≤ length old → take (per_place * n) row ≡ block_spans from done

pub blocks_none : (rec : List ℕ) (from : ℕ) (old : List ℕ) → from ≤ length rec → BlocksRead rec from old old from most_blocks 0 1
blocks_none rec from old h =
    record {
      done = [];
      is = before_nil (some_blocks (drop from rec));
      inside = h;
      number = refl;
      few = omega arith;
      orders = refl;
      small = omega arith;
      ends = omega arith;
      long = refl;
      told = λ l. refl;
    }

module _ {rec : List ℕ} {from at left n o t : ℕ} {old row : List ℕ} (v : BlocksRead rec from old row at left n o) (e : t ≡ head_tag (drop at rec)) where
  pub block_there : t ≡ block_tag → head_tag (drop at rec) ≡ block_tag
  block_there h = sym e ∙ h

  gone : some_blocks (drop from rec) ≡ none → blocks (drop from rec) ≡ none
  unfolding blocks
  gone q = rw q

  some_end : (t ≡ block_tag → ⊥) → some_blocks (drop from rec) ≡ some (v.done, drop at rec)
  some_end h = going_end (is_tag block_tag) next_block with_block v.done left (state n o) (drop at rec) v.is e (ne_eqb t block_tag h)

  pub blocks_cut : (t ≡ block_tag → ⊥) → at < length rec → blocks (drop from rec) ≡ none
  unfolding blocks
  blocks_cut h k = rw (some_end h, drop-cons rec at 0 k)

  pub blocks_end : (t ≡ block_tag → ⊥) → length rec ≤ at → BlocksAre rec from old row n o
  unfolding blocks
  blocks_end h k =
      record {
        bs = v.done;
        is = rw (some_end h, drop_of_length-le rec {i = at} k);
        places = v.number;
        few = v.few;
        total = v.orders;
        long = v.long;
        told = v.told;
      }

  pub blocks_last : (t ≡ block_tag → ⊥) → {r : Option Judged} → r ≡ then_some (leb (length rec) at) (record { places = n; total = o }) → IsBlocks rec from old row r
  blocks_last h q =
      by_bool (leb (length rec) at)
      (λ y. rw (q, y) (blocks_end h (leb-true (length rec) at y)))
      (λ y. rw (q, y) (blocks_cut h (leb-false (length rec) at y)))

  pub blocks_full : t ≡ block_tag → left ≡ 0 → blocks (drop from rec) ≡ none
  blocks_full h z = gone (going_full (is_tag block_tag) next_block with_block v.done left (state n o) (drop at rec) v.is e (eq-eqb t block_tag h) z)

  pub blocks_bad : t ≡ block_tag → (left ≡ 0 → ⊥) → (new : List ℕ) → IsBlock rec at n o row new None → blocks (drop from rec) ≡ none
  blocks_bad h z new q =
      gone (going_bad (is_tag block_tag) next_block with_block v.done left (state n o) (drop at rec) v.is e (eq-eqb t block_tag h) z q)

  pub blocks_more : t ≡ block_tag → (left ≡ 0 → ⊥) → (new : List ℕ) {p : Places} → IsBlock rec at n o row new (Some p) → BlocksRead rec from old new p.next (left - 1) p.number p.orders
  blocks_more h z new {p} d =
      let bs : List Block = v.done ++ (d.b ∷ []) in
      let one_less : left ≡ suc (left - 1) = omega arith in
      let next : with_block (state n o) d.b ≡ state p.number p.orders = ap₂ state (sym d.number) (sym d.orders) in
      record {
        done = bs;
        is = rw next at (going_more (is_tag block_tag) next_block with_block v.done left (state n o) (drop at rec) v.is e (eq-eqb t block_tag h) one_less d.is);
        inside = d.inside;
        number = rw (places_snoc v.done d.b, length-append, ← v.number) d.number;
        few = d.few;
        orders = d.orders ∙ rw (count_snoc v.done d.b, ← v.orders);
        small = d.small;
        ends = omega (arith, v.ends, d.ends, ap size (many_append block_fields v.done (d.b ∷ [])), size_append (many block_fields v.done) (block_fields d.b ++ []), size_append (block_fields d.b) []);
        long = d.long ∙ v.long;
        told =
            λ l.
            d.told (omega (arith, v.long))
            ∙ ap (λ (x : List ℕ). x ++ place_spans (at + block_head) (places_of d.b)) (v.told l)
            ∙ sym (block_spans_more from v.done d.b v.ends);
      }
