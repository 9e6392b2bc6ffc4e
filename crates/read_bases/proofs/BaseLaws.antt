-- A byte is the letter of a base exactly if it is one of the five, so the list is read letter by letter.
use Prim.Native.Nat.{ℕ, suc, ◌+◌, ◌≤◌, ◌<◌}
use mathlib.Core.Path.{◌≡◌, refl, sym, ap, ap₂, ◌∙◌}
use mathlib.Core.Bool.{Bool, true, false, false≢true}
use mathlib.Core.List.{List, [], ◌∷◌}
use mathlib.Core.Option.{none, some}
use native.Mathlib.Numerals.{add-one}
use native.Mathlib.Omega.{arith}
use borrow.Author.Tests.{eqb-true, le-ltb, lt-ltb}
use lib.Dec.{ltb, eqb}
use lib.ListN.{length, get_or, drop, drop_of_length-le}
use Rattle.laws.specs.Cases.{by_bool, by_option, some_inj}
use Rattle.laws.specs.Keys.{any_of}
use Rattle.laws.specs.Lists.{next}
use Rattle.rules.specs.Reading.{read_letters}
use Rattle.rules.specs.Refusals.{ok}
use Rattle.rules.specs.Units.{Base, letter, base_of, base_at}
use Rattle.rules.proofs.ResultLaws.{ok_inj, ok≢bad, map_ok}
use Rattle.token_table.specs.Table.{Verdict, verdict}
use Rattle.rules.specs.declared.Refusal.{Refusal}
use Rattle.rules.specs.Reasons.{refusal}
use Rattle.std.proofs.Common.{Ok, Err}
use Rattle.token_table.proofs.AltLaws.{verdict_map}
use Rattle.read_bases.specs.Bases.{base_letters, bases_in}

-- ---- a letter

-- by which of the five it is
by_letter : {C : Type 0} (l : ℕ) → (l ≡ 66 → C) → (l ≡ 68 → C) → (l ≡ 72 → C) → (l ≡ 75 → C) → (l ≡ 79 → C) → any_of base_letters l ≡ true → C
by_letter l b d h k o y =
    by_bool (eqb l 66) (λ e. b (eqb-true l 66 e))
    (λ e1. by_bool (eqb l 68) (λ e. d (eqb-true l 68 e))
    (λ e2. by_bool (eqb l 72) (λ e. h (eqb-true l 72 e))
    (λ e3. by_bool (eqb l 75) (λ e. k (eqb-true l 75 e))
    (λ e4. by_bool (eqb l 79) (λ e. o (eqb-true l 79 e)) (λ e5. absurd (false≢true (rw (e1, e2, e3, e4, e5) at y)))))))

pub letter_is : (l : ℕ) → any_of base_letters l ≡ true → (base_of l ≡ some (base_at l)) × (letter (base_at l) ≡ l)
letter_is l y = by_letter l (λ e. rw e (refl, refl)) (λ e. rw e (refl, refl)) (λ e. rw e (refl, refl)) (λ e. rw e (refl, refl)) (λ e. rw e (refl, refl)) y

pub letter_none : (l : ℕ) → any_of base_letters l ≡ false → (base_of l ≡ none) × (letter (base_at l) ≡ 68)
letter_none l y =
    by_bool (eqb l 66) (λ e. absurd (false≢true (sym y ∙ rw e)))
    (λ e1. by_bool (eqb l 68) (λ e. absurd (false≢true (sym y ∙ rw (e1, e))))
    (λ e2. by_bool (eqb l 72) (λ e. absurd (false≢true (sym y ∙ rw (e1, e2, e))))
    (λ e3. by_bool (eqb l 75) (λ e. absurd (false≢true (sym y ∙ rw (e1, e2, e3, e))))
    (λ e4. by_bool (eqb l 79) (λ e. absurd (false≢true (sym y ∙ rw (e1, e2, e3, e4, e)))) (λ e5. rw (e1, e2, e3, e4, e5) (refl, refl))))))

-- ---- 1

-- the turns of `letters`
module _ (ls : List ℕ) (i : ℕ) where
  pub letters_end : {r : Verdict} → r ≡ verdict (read_letters i (drop i ls)) → length ls ≤ i → Ok tt ≡ r
  letters_end q h = sym (q ∙ rw (drop_of_length-le ls h))

  pub letters_many : {r : Verdict} {x : Refusal} → r ≡ verdict (read_letters i (drop i ls)) → i < length ls → 32 ≤ i → x ≡ refusal 1 i → Err x ≡ r
  letters_many q h g v = ap Err v ∙ sym (q ∙ rw (next ls i h, le-ltb i 32 g, read_letters))

  pub letters_wrong : {f : Bool} {r : Verdict} {x : Refusal} → r ≡ verdict (read_letters i (drop i ls)) → i < length ls → i < 32 → f ≡ any_of base_letters (get_or ls i 0) → f ≡ false
      → x ≡ refusal 1 i → Err x ≡ r
  letters_wrong q h g e y v = ap Err v ∙ sym (q ∙ rw (next ls i h, lt-ltb i 32 g, read_letters, (letter_none (get_or ls i 0) (sym e ∙ y)).0))

  pub letters_more : {f : Bool} {r : Verdict} → r ≡ verdict (read_letters i (drop i ls)) → i < length ls → i < 32 → f ≡ any_of base_letters (get_or ls i 0) → f ≡ true
      → r ≡ verdict (read_letters (i + 1) (drop (i + 1) ls))
  letters_more q h g e y =
      let l = get_or ls i 0 in
      q ∙ rw (next ls i h, lt-ltb i 32 g, read_letters, (letter_is l (sym e ∙ y)).0, add-one i) (verdict_map (λ bs. base_at l ∷ bs) (read_letters (suc i) (drop (suc i) ls)))

-- what is read are the bases of the letters
pub letters_are : (i : ℕ) (ls : List ℕ) (bs : List Base) → read_letters i ls ≡ ok bs → bs ≡ bases_in ls
letters_are i [] bs h = sym (ok_inj h)
letters_are i (l ∷ ls) bs h =
    by_bool (ltb i 32)
    (λ y. by_option (base_of l)
    (λ z. ok≢bad (rw (y, read_letters, z) at h))
    (λ b z. map_ok (λ bs. b ∷ bs) (read_letters (suc i) ls) bs (rw (y, read_letters, z) at h)
    (λ bs' a r. sym r ∙ ap₂ (λ x xs. x ∷ xs) (same l b z) (letters_are (suc i) ls bs' a))))
    (λ y. ok≢bad (rw (y, read_letters) at h))
  where
    same : (l : ℕ) (b : Base) → base_of l ≡ some b → b ≡ base_at l
    same l b z =
        by_bool (any_of base_letters l)
        (λ y. some_inj (sym z ∙ (letter_is l y).0))
        (λ y. let w : ◌≡◌ {A = ℕ} 0 1 = cc (z, (letter_none l y).0) in absurd (omega arith))
