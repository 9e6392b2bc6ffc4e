-- The answers by the text's length; that a short record has a short text; and that the printer's rule is the one for the text of what stands behind the head.
use mathlib.Core.Path.{◌≡◌, refl, subst}
use mathlib.Core.Bool.{true}
use mathlib.Core.List.{List}
use Prim.Native.Nat.{ℕ, ◌≤◌, ◌<◌}
use native.Mathlib.Omega.{arith}
use borrow.Author.Tests.{le-leb, lt-leb}
use lib.ListN.{length}
use Rattle.laws.specs.Over.{over, part}
use Rattle.rules.specs.Refusals.{Res, ok, bad, map_r, too_long, no_room, not_well_formed, most_text}
use Rattle.rules.specs.Commands.{Command}
use Rattle.rules.specs.Records.{head_size}
use Rattle.rules.specs.WellFormed.{record_of, body_of, well_formed_body}
use Rattle.rules.specs.Answers.{Answer, answered, buffered, fitted, printed, printing, Prints}
use Rattle.rules.specs.Reasons.{refusal}
use Rattle.std.proofs.Common.{Option, Some, None, Ok, Err}
use Rattle.rules.specs.Printing.{print}
use Rattle.rules.proofs.EncodeDecode.{record_room, record_part}
use Rattle.rules.proofs.TextBound.{body_bound}
use Rattle.judge.specs.declared.Judged.{Judged}
use Rattle.judge.specs.Judged.{IsGood, Judges}
use Rattle.print_bound.specs.Bounds.{TextWithin}
use Rattle.print_text.specs.Texts.{text_of}
use Rattle.printer.specs.Given.{Gives}

-- ---- bounds

within_of : (rec : List ℕ) {n : ℕ} → TextWithin rec n → (r : Res Command) → body_of rec ≡ r → length (text_of rec) ≤ n
unfolding text_of
within_of rec h (ok c) e = rw (e, text_of) (h c e)
within_of rec h (bad n p) e = rw (e, text_of) (omega arith)

pub text_within : (rec : List ℕ) {n : ℕ} → TextWithin rec n → length (text_of rec) ≤ n
text_within rec h = within_of rec h (body_of rec) refl

pub short_text : (rec : List ℕ) → length rec ≤ 146 → length (text_of rec) ≤ most_text
short_text rec h = omega (arith, text_within rec (body_bound rec))

-- ---- the answers

module _ (text old : List ℕ) where
  promised : (result : Res (List ℕ)) → fitted old (printed text) ≡ result → Gives text old (answered (map_r length result)) (buffered result old)
  promised result e = record { answers = rw e; holds = rw e }

  pub answer_long : {n : ℕ} → n ≡ length text → most_text < n → Gives text old (Err (refusal too_long most_text)) old
  answer_long e k = promised (bad too_long most_text) (rw (lt-leb (length text) most_text (omega arith)))

  pub answer_room : {n : ℕ} → n ≡ length text → n ≤ most_text → length old < n → Gives text old (Err (refusal no_room n)) old
  answer_room {n} e k l =
      promised (bad no_room n) (rw (le-leb (length text) most_text (omega arith), lt-leb (length text) (length old) (omega arith), e))

  pub answer_done : {new : List ℕ} {n most : ℕ} → most ≤ most_text → most ≤ length old → length text ≤ most → n ≡ length text → new ≡ over text old
      → Gives text old (Ok n) new
  answer_done k l m e o =
      rw (e, o) (promised (ok text) (rw (le-leb (length text) most_text (omega arith), le-leb (length text) (length old) (omega arith))))

  pub answer_measured : {new : List ℕ} {n k : ℕ} → n ≡ length text → n ≤ most_text → n ≤ length old → k ≡ length text → new ≡ over text old
      → Gives text old (Ok k) new
  answer_measured e k l = answer_done k l (omega arith)

-- ---- what the judge said

module _ (rec row told : List ℕ) {r : Option Judged} (j : Judges (record_of rec) row told r) where
  module _ {x : Judged} (e : r ≡ Some x) where
    good : IsGood (record_of rec) row told x.places x.total
    good = subst (Judges (record_of rec) row told) e j

    pub head_room : head_size ≤ length rec
    head_room = record_room rec good.tree good.is

    behind : body_of (part rec head_size) ≡ ok good.tree
    behind = record_part rec good.tree good.is

    pub judged_good : well_formed_body (part rec head_size) ≡ true
    judged_good = rw behind

    same_text : text_of (part rec head_size) ≡ print good.tree
    unfolding text_of
    same_text = rw (behind, text_of)

    pub judged_text : {old new : List ℕ} {a : Answer} → Gives (text_of (part rec head_size)) old a new → Prints rec old a new
    unfolding printing
    judged_text {old} {new} {a} p = rw good.is (subst (λ (w : List ℕ). Gives w old a new) same_text p)

  pub judged_bad : (old : List ℕ) → r ≡ None → Prints rec old (Err (refusal not_well_formed 0)) old
  unfolding printing
  judged_bad old e = let b = subst (Judges (record_of rec) row told) e j in record { answers = rw b; holds = rw b }
