-- The C interface's number is the result's number and value, so a promise of the answer is one of the number: no number is lost where a refusal is told
-- as a reason, since each call's are those of their reasons.
use mathlib.Core.Path.{◌≡◌, sym, ap, ◌∙◌}
use mathlib.Core.List.{List}
use Prim.Native.Nat.{ℕ, ◌+◌, ◌*◌, ◌^◌}
use native.Mathlib.Omega.{arith}
use lib.ListN.{length}
use Rattle.rules.specs.declared.Keeper.{Keeper}
use Rattle.rules.specs.declared.Pressed.{Pressed}
use Rattle.rules.specs.Refusals.{Res, ok, bad, map_r}
use Rattle.rules.specs.Commands.{Command}
use Rattle.rules.specs.Records.{encode}
use Rattle.rules.specs.Answers.{Answer, Promise, RowPromise, answered, reading, printing, ordering, counting, listing, locating, reading_row, ordering_row, placing}
use Rattle.rules.specs.Keeping.{ready, held, flag, pressing, after_key}
use Rattle.rules.proofs.RefusalPlaces.{Comes, Whatever, map_comes}
use Rattle.rules.proofs.ReasonNumbers.{Kept, reading_kept, printing_kept, ordering_kept, counting_kept, listing_kept, locating_kept, reading_row_kept, ordering_row_kept, placing_kept, pressing_kept}
use Rattle.mml.specs.declared.Numbered.{Numbered}
use Rattle.mml.specs.Interface.{packed, returned, Packs, PacksRow, PacksNumber, pressed, PacksKey, numbered}

-- where each number is that of its reason, the answer's number is the result's
pub packed_returned : (r : Res ℕ) → Comes Kept Whatever r → packed (answered r) ≡ returned r
packed_returned (ok v) h = omega arith
packed_returned (bad n p) h = ap (λ (m : ℕ). m * 2 ^ 32 + p) h

-- so it is of a result's size
pub packed_size : {A : Type 0} (size : A → ℕ) (r : Res A) → Comes Kept Whatever r → packed (answered (map_r size r)) ≡ returned (map_r size r)
packed_size size r h = packed_returned (map_r size r) (map_comes Kept Whatever Whatever size r h (λ a q. tt))

packs : {result : Res (List ℕ)} {old new : List ℕ} {a : Answer} {r : ℕ} → Comes Kept Whatever result → Promise result old a new → r ≡ packed a
    → Packs result old r new
packs {result} h p e = record { answers = e ∙ ap packed p.answers ∙ packed_size length result h; holds = p.holds }

packs_row : {result : Res Command} {old row new filled : List ℕ} {a : Answer} {r : ℕ} → Comes Kept Whatever result
    → RowPromise result old row a new filled → r ≡ packed a → PacksRow result old row r new filled
packs_row {result} h p e =
    record { answers = e ∙ ap packed p.answers ∙ packed_size (λ c. length (encode c)) result h; holds = p.holds; fills = p.fills }

packs_number : (result : Res ℕ) {a : Answer} {r : ℕ} → packed (answered result) ≡ returned result → a ≡ answered result → r ≡ packed a → PacksNumber result r
packs_number result h p e = e ∙ ap packed p ∙ h

module _ {a : Answer} {r : ℕ} where
  module _ {new : List ℕ} where
    pub packs_reading : (text letters old : List ℕ) → Promise (reading text letters old) old a new → r ≡ packed a → Packs (reading text letters old) old r new
    packs_reading text letters old p e = packs (reading_kept letters text old) p e

    pub packs_printing : (rec old : List ℕ) → Promise (printing rec old) old a new → r ≡ packed a → Packs (printing rec old) old r new
    packs_printing rec old p e = packs (printing_kept rec old) p e

    pub packs_ordering : (rec : List ℕ) (k : ℕ) (old : List ℕ) → Promise (ordering rec k old) old a new → r ≡ packed a → Packs (ordering rec k old) old r new
    packs_ordering rec k old p e = packs (ordering_kept rec k old) p e

    pub packs_listing : (rec old : List ℕ) → Promise (listing rec old) old a new → r ≡ packed a → Packs (listing rec old) old r new
    packs_listing rec old p e = packs (listing_kept rec old) p e

    module _ {filled : List ℕ} where
      pub packs_reading_row : (text letters old row : List ℕ) → RowPromise (reading_row text letters old row) old row a new filled → r ≡ packed a
          → PacksRow (reading_row text letters old row) old row r new filled
      packs_reading_row text letters old row p e = packs_row (reading_row_kept letters text old row) p e

      pub packs_ordering_row : (rec : List ℕ) (k : ℕ) (old row : List ℕ) → RowPromise (ordering_row rec k old row) old row a new filled → r ≡ packed a
          → PacksRow (ordering_row rec k old row) old row r new filled
      packs_ordering_row rec k old row p e = packs_row (ordering_row_kept rec k old row) p e

  pub packs_counting : (rec : List ℕ) → a ≡ answered (counting rec) → r ≡ packed a → PacksNumber (counting rec) r
  packs_counting rec p e = packs_number (counting rec) (packed_returned (counting rec) (counting_kept rec)) p e

  pub packs_locating : (rec : List ℕ) (n : ℕ) (w : List ℕ) → a ≡ answered (locating rec n w) → r ≡ packed a → PacksNumber (locating rec n w) r
  packs_locating rec n w p e = packs_number (locating rec n w) (packed_returned (locating rec n w) (locating_kept rec n w)) p e

  pub packs_placing : (rec row : List ℕ) (n : ℕ) → a ≡ answered (map_r length (placing rec row n)) → r ≡ packed a → PacksNumber (map_r length (placing rec row n)) r
  packs_placing rec row n p e = packs_number (map_r length (placing rec row n)) (packed_size length (placing rec row n) (placing_kept rec row n)) p e

-- a key's answer, whose number is that of its reason
pub packed_pressed : (k : Keeper) (c : ℕ) → packed (after_key k c).answer ≡ returned (pressed k c)
unfolding after_key
packed_pressed k c = packed_size (λ n. flag (ready (held n))) (pressing k c) (pressing_kept k c)

pub packs_pressed : (k : Keeper) (c : ℕ) {d : Pressed} {r : ℕ} → d ≡ after_key k c → r ≡ packed d.answer → record { keeper = d.keeper; answer = r } ≡ numbered k c
packs_pressed k c {d} {r} p e =
    let f : Pressed → Numbered = λ d. record { keeper = d.keeper; answer = packed d.answer } in
    let g : ℕ → Numbered = λ n. record { keeper = (after_key k c).keeper; answer = n } in
    rw e (ap f p ∙ ap g (packed_pressed k c))

pub packs_key : (k : Keeper) (c : ℕ) {r : Numbered} → r ≡ numbered k c → PacksKey k c r.answer r.keeper
packs_key k c e = record { answers = ap (λ (p : Numbered). p.answer) e; holds = ap (λ (p : Numbered). p.keeper) e }
