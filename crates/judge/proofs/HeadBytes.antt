-- A record is well formed exactly where it begins with a head, what stands behind it is well formed, and the head's number is the product that was collected there.
use mathlib.Core.Path.{◌≡◌, refl, sym, ap, ◌∙◌, subst}
use mathlib.Core.Bool.{Bool, true, false}
use mathlib.Core.List.{List, ◌++◌}
use Prim.Native.Nat.{ℕ, ◌≤◌}
use native.Mathlib.Omega.{arith}
use lib.ListN.{length, drop}
use lib.Dec.{eqb}
use borrow.Author.Tests.{eqb-true, eqb-false}
use Rattle.std.specs.Bool.{then_some}
use Rattle.laws.specs.Cases.{by_bool}
use Rattle.laws.specs.Over.{part, part_from}
use Rattle.rules.specs.Reasons.{refusal}
use Rattle.rules.specs.Refusals.{ok, bad, not_well_formed}
use Rattle.rules.specs.Records.{head_bytes, head_size, body_bytes, count_in}
use Rattle.rules.specs.WellFormed.{record_of, body_of}
use Rattle.rules.specs.Orders.{count}
use Rattle.rules.specs.Answers.{Counts, counting, answered}
use Rattle.rules.proofs.CountIsField.{field_is, counted}
use Rattle.rules.proofs.EncodeDecode.{record_is, record_refused, record_body, headed_record}
use Rattle.rules.proofs.ResultLaws.{ok_inj, ok≢bad}
use Rattle.record_head.specs.Heads.{Begins}
use Rattle.judge.specs.Judged.{IsGood, Judges}
use Rattle.judge.specs.declared.Judged.{Judged}
use Rattle.std.proofs.Common.{Option, Some, None, Result, Ok, Err}
use Rattle.std.specs.Option.{ok_or}

-- "or that lacks it"
pub no_head : (rec : List ℕ) {h : Bool} → h ≡ false → Begins rec h → record_of rec ≡ bad not_well_formed 0
no_head rec e b = record_refused rec (λ c is. subst (Begins rec) e b (count c) (body_bytes c) (sym (record_is rec c is).bytes))

module _ (rec : List ℕ) {h : Bool} (e : h ≡ true) (b : Begins rec h) where
  own : Begins rec true
  own = subst (Begins rec) e b

  pub head_room : head_size ≤ length rec
  head_room = omega (arith, ap length own)

  module _ (old new : List ℕ) {r : Option Judged} (j : Judges (body_of (part rec head_size)) old new r) where
    behind : {x : Option Judged} → r ≡ x → Judges (body_of (drop head_size rec)) old new x
    behind {x} q = subst (λ (s : List ℕ). Judges (body_of s) old new x) (part_from rec head_size) (subst (Judges (body_of (part rec head_size)) old new) q j)

    pub body_bad : r ≡ None → record_of rec ≡ bad not_well_formed 0
    body_bad q = record_refused rec (λ c is. ok≢bad (sym (behind q) ∙ record_body rec c is))

    module _ {x : Judged} (q : r ≡ Some x) where
      good : IsGood (body_of (drop head_size rec)) old new x.places x.total
      good = behind q

      -- the number that stands in the head is the product
      head_right : {n : ℕ} → n ≡ count_in rec → x.total ≡ n → IsGood (record_of rec) old new x.places x.total
      head_right q w =
          let g = good in
          let same : head_bytes (count g.tree) ++ drop head_size rec ≡ rec = ap (λ (x : ℕ). head_bytes x ++ drop head_size rec) (sym g.total ∙ w ∙ q) ∙ sym own in
          record {
            tree = g.tree;
            is = subst (λ (s : List ℕ). record_of s ≡ ok g.tree) same (headed_record (drop head_size rec) g.tree g.is);
            places = g.places;
            few = g.few;
            total = g.total;
            long = g.long;
            told = g.told;
          }

      -- "A record whose field isn't the product"
      head_wrong : {n : ℕ} → n ≡ count_in rec → (x.total ≡ n → ⊥) → record_of rec ≡ bad not_well_formed 0
      head_wrong q w =
          let g = good in
          record_refused rec (λ c is.
          let same : g.tree ≡ c = ok_inj (sym g.is ∙ record_body rec c is) in
          w (g.total ∙ ap count same ∙ sym (field_is rec c is) ∙ sym q))

      pub head_told : {n : ℕ} → n ≡ count_in rec → {a : Option Judged} → a ≡ then_some (eqb x.total n) x → Judges (record_of rec) old new a
      head_told {n} q w =
          by_bool (eqb x.total n)
          (λ y. rw (w, y) (head_right q (eqb-true x.total n y)))
          (λ y. rw (w, y) (head_wrong q (eqb-false x.total n y)))

-- ---- count

-- where `ok_or` refuses there was nothing, and the refusal is the one that was given
pub ok_or_refused : {A E : Type 0} (r : Option A) (e f : E) → ◌≡◌ {A = Result A E} (Err e) (ok_or r f) → (r ≡ None) × (e ≡ f)
ok_or_refused None e f h = (refl, grind arith)
ok_or_refused (Some x) e f h = grind arith

module _ (rec old new : List ℕ) where
  pub counts_good : {r : Option Judged} {x : Judged} → Judges (record_of rec) old new r → r ≡ Some x → Counts rec (Ok x.total)
  counts_good j e =
      let g = subst (Judges (record_of rec) old new) e j in
      ap Ok g.total ∙ sym (ap answered (counted rec g.tree g.is))

  pub counts_bad : {r : Option Judged} → Judges (record_of rec) old new r → r ≡ None → Counts rec (Err (refusal not_well_formed 0))
  unfolding counting
  counts_bad j e = rw (subst (Judges (record_of rec) old new) e j)
