-- No number is lost where a refusal is told as a reason: what each call refuses with is the number of its reason, since each is one of its list.
use Prim.Native.Nat.{ℕ}
use mathlib.Core.Path.{◌≡◌, refl, sym, ap, ◌∙◌, subst}
use mathlib.Core.Bool.{true, false≢true}
use mathlib.Core.List.{List, [], ◌∷◌}
use lib.Dec.{eqb}
use borrow.Author.Tests.{eqb-true}
use Rattle.laws.specs.Cases.{by_bool, and_l, and_r}
use Rattle.laws.specs.Keys.{any_of, either}
use Rattle.laws.specs.Lists.{all}
use Rattle.rules.specs.declared.Keeper.{Keeper}
use Rattle.rules.specs.Answers.{reading, printing, ordering, counting, listing, locating, reading_row, ordering_row, placing}
use Rattle.rules.specs.Keeping.{pressing}
use Rattle.rules.specs.Reasons.{number, reason_of}
use Rattle.rules.specs.Refusals.{Res}
use Rattle.rules.proofs.FromTheList.{ReaderRefuses, PrinterRefuses, OrderRefuses, CountRefuses, ListRefuses, LocateRefuses, ReadRowRefuses, OrderRowRefuses, PlaceRefuses, KeyRefuses, Formed, Record, Text, reading_comes, printing_comes, ordering_comes, counting_comes, listing_comes, locating_comes, reading_row_comes, ordering_row_comes, placing_comes, pressing_comes}
use Rattle.rules.proofs.RefusalPlaces.{Comes, Whatever, comes_as, comes_more}

-- the number of its reason, wherever it is refused
abbrev pub Kept : ℕ → ℕ → Type 0
Kept n p = number (reason_of n) ≡ n

-- where all numbers of a list are kept, each of them is
any_kept : (ks : List ℕ) (n : ℕ) → all (λ k. eqb (number (reason_of k)) k) ks ≡ true → any_of ks n ≡ true → number (reason_of n) ≡ n
any_kept [] n a h = absurd (false≢true h)
any_kept (k ∷ ks) n a h =
    by_bool (eqb n k)
    (λ y. subst (λ x. number (reason_of x) ≡ x) (sym (eqb-true n k y)) (eqb-true _ k (and_l _ _ a)))
    (λ y. any_kept ks n (and_r _ _ a) (sym (ap (λ b. either b (any_of ks n)) y) ∙ h))

-- a call whose refusals are kept
kept : {A : Type 0} (P : ℕ → ℕ → Type 0) (Q : A → Type 0) (r : Res A) → Comes P Q r → ((n p : ℕ) → P n p → Kept n p) → Comes Kept Whatever r
kept P Q r h k = comes_more Kept Q Whatever r (comes_as P Kept Q r h k) (λ a q. tt)

reader : (letters text old : List ℕ) (n p : ℕ) → ReaderRefuses letters text old n p → Kept n p
reader letters text old n p (ReaderRefuses.a_letter h k) = refl
reader letters text old n p (ReaderRefuses.too_long h) = refl
reader letters text old n p (ReaderRefuses.no_end h) = refl
reader letters text old n p (ReaderRefuses.a_byte z h k) = any_kept (3 ∷ 4 ∷ 5 ∷ 7 ∷ 8 ∷ 9 ∷ 10 ∷ 11 ∷ 12 ∷ 13 ∷ 14 ∷ 15 ∷ 16 ∷ 21 ∷ []) n refl z
reader letters text old n p (ReaderRefuses.no_room h k) = refl

printer : (old : List ℕ) (n p : ℕ) → PrinterRefuses old n p → Kept n p
printer old n p PrinterRefuses.not_well_formed = refl
printer old n p PrinterRefuses.too_long = refl
printer old n p (PrinterRefuses.no_room h k) = refl

order : (r : List ℕ) (k : ℕ) (old : List ℕ) (n p : ℕ) → OrderRefuses r k old n p → Kept n p
order r k old n p OrderRefuses.not_well_formed = refl
order r k old n p (OrderRefuses.no_such_order e h) = refl
order r k old n p (OrderRefuses.no_room h m) = refl

count : (n p : ℕ) → CountRefuses n p → Kept n p
count n p CountRefuses.not_well_formed = refl

list : (r old : List ℕ) (n p : ℕ) → ListRefuses r old n p → Kept n p
list r old n p ListRefuses.not_well_formed = refl
list r old n p (ListRefuses.no_room e h) = refl

member : (r : List ℕ) (m : ℕ) (w : List ℕ) (n p : ℕ) → LocateRefuses r m w n p → Kept n p
member r m w n p LocateRefuses.not_well_formed = refl
member r m w n p (LocateRefuses.no_such_place e h) = refl
member r m w n p (LocateRefuses.wrong_argument e h k) = refl

read_row : (letters text old row : List ℕ) (n p : ℕ) → ReadRowRefuses letters text old row n p → Kept n p
read_row letters text old row n p (ReadRowRefuses.as_reader h) = reader letters text old n p h
read_row letters text old row n p (ReadRowRefuses.no_slots h k) = refl

order_row : (r : List ℕ) (k : ℕ) (old row : List ℕ) (n p : ℕ) → OrderRowRefuses r k old row n p → Kept n p
order_row r k old row n p (OrderRowRefuses.as_order h) = order r k old n p h
order_row r k old row n p (OrderRowRefuses.no_slots h m) = refl

place : (r row : List ℕ) (m n p : ℕ) → PlaceRefuses r row m n p → Kept n p
place r row m n p PlaceRefuses.not_well_formed = refl
place r row m n p (PlaceRefuses.wrong_row e h) = refl
place r row m n p (PlaceRefuses.no_such_place e h) = refl

key : (k : Keeper) (c n p : ℕ) → KeyRefuses k c n p → Kept n p
key k c n p (KeyRefuses.full_line a b d) = refl
key k c n p (KeyRefuses.passed_count h) = refl

pub reading_kept : (letters text old : List ℕ) → Comes Kept Whatever (reading text letters old)
reading_kept letters text old = kept (ReaderRefuses letters text old) Record _ (reading_comes letters text old) (reader letters text old)

pub printing_kept : (r old : List ℕ) → Comes Kept Whatever (printing r old)
printing_kept r old = kept (PrinterRefuses old) Text _ (printing_comes r old) (printer old)

pub ordering_kept : (r : List ℕ) (k : ℕ) (old : List ℕ) → Comes Kept Whatever (ordering r k old)
ordering_kept r k old = kept (OrderRefuses r k old) Record _ (ordering_comes r k old) (order r k old)

pub counting_kept : (r : List ℕ) → Comes Kept Whatever (counting r)
counting_kept r = kept _ _ _ (counting_comes r) count

pub listing_kept : (r old : List ℕ) → Comes Kept Whatever (listing r old)
listing_kept r old = kept _ _ _ (listing_comes r old) (list r old)

pub locating_kept : (r : List ℕ) (n : ℕ) (w : List ℕ) → Comes Kept Whatever (locating r n w)
locating_kept r n w = kept _ _ _ (locating_comes r n w) (member r n w)

pub reading_row_kept : (letters text old row : List ℕ) → Comes Kept Whatever (reading_row text letters old row)
reading_row_kept letters text old row = kept (ReadRowRefuses letters text old row) Formed _ (reading_row_comes letters text old row) (read_row letters text old row)

pub ordering_row_kept : (r : List ℕ) (k : ℕ) (old row : List ℕ) → Comes Kept Whatever (ordering_row r k old row)
ordering_row_kept r k old row = kept (OrderRowRefuses r k old row) Formed _ (ordering_row_comes r k old row) (order_row r k old row)

pub placing_kept : (r row : List ℕ) (n : ℕ) → Comes Kept Whatever (placing r row n)
placing_kept r row n = kept _ _ _ (placing_comes r row n) (place r row n)

pub pressing_kept : (k : Keeper) (c : ℕ) → Comes Kept Whatever (pressing k c)
pressing_kept k c = kept _ _ _ (pressing_comes k c) (key k c)
