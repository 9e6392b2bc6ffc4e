-- Well-formed bytes and well-formed trees are the same thing: what is read off bytes is encoded to them again, by the test in `judged`; and an encoded
-- tree decodes to itself, so that it passes that test. A record is well formed where its body is and its head is the one of its command.
use Prim.Native.Nat.{ℕ, ◌≤◌}
use mathlib.Core.Path.{◌≡◌, refl, ap, ◌∙◌, subst}
use mathlib.Core.Bool.{true, ◌&&◌}
use mathlib.Core.List.{List, ◌++◌}
use mathlib.Core.Option.{Option, none, some}
use native.Mathlib.Omega.{arith}
use lib.ListN.{length, drop}
use Rattle.laws.specs.Cases.{by_bool, and_l, conjuncts}
use Rattle.laws.specs.Lists.{eq_l, eq_l_is, eq_l_refl}
use Rattle.laws.specs.Over.{part, part_from}
use Rattle.rules.specs.Refusals.{ok, bad, not_well_formed}
use Rattle.rules.specs.Commands.{Command}
use Rattle.rules.specs.Orders.{count}
use Rattle.rules.specs.Records.{body_bytes, head_bytes, head_size, encode, decode_body, decode}
use Rattle.rules.specs.WellFormed.{well_formed, judged, record_of, body_of}
use Rattle.rules.proofs.DecodeEncode.{decode_body_lem}
use Rattle.rules.proofs.ResultLaws.{ok_inj, ok≢bad, guard_ok}

-- the bytes are what is written of a well-formed tree
pub record IsWritten (written : Command → List ℕ) (r : List ℕ) (c : Command) : Type 0 where
  pub well : well_formed c ≡ true
  pub bytes : written c ≡ r

judged_is : (written : Command → List ℕ) (r : List ℕ) (o : Option Command) (c : Command) → judged written r o ≡ ok c → IsWritten written r c
judged_is written r none c h = ok≢bad h
judged_is written r (some d) c h =
    guard_ok (well_formed d && eq_l (written d) r) 18 0 (λ _. ok d) c h
    (λ t k.
    rw (← (ok_inj k)) (record {
      well = and_l (well_formed d) (eq_l (written d) r) t;
      bytes = eq_l_is (written d) r (search conjuncts);
    }))

judged_refused : (written : Command → List ℕ) (r : List ℕ) (o : Option Command) → ((c : Command) → judged written r o ≡ ok c → ⊥)
    → judged written r o ≡ bad not_well_formed 0
judged_refused written r none h = refl
judged_refused written r (some c) h = by_bool (well_formed c && eq_l (written c) r) (λ y. absurd (h c (rw y))) (λ y. rw y)

-- ---- a record

-- a record's bytes are its tree's
abbrev pub IsRecord : List ℕ → Command → Type 0
IsRecord = IsWritten encode

pub record_is : (r : List ℕ) (c : Command) → record_of r ≡ ok c → IsRecord r c
unfolding record_of
record_is r c h = judged_is encode r (decode r) c h

pub record_of_lem : (c : Command) → well_formed c ≡ true → record_of (encode c) ≡ ok c
unfolding record_of
record_of_lem c h = rw (decode_body_lem c h, h, eq_l_refl (encode c))

pub record_at : (r : List ℕ) (c : Command) → well_formed c ≡ true → encode c ≡ r → record_of r ≡ ok c
record_at r c h e = subst (λ s. record_of s ≡ ok c) e (record_of_lem c h)

-- what is no command's record is refused
pub record_refused : (r : List ℕ) → ((c : Command) → record_of r ≡ ok c → ⊥) → record_of r ≡ bad not_well_formed 0
unfolding record_of
record_refused r h = judged_refused encode r (decode r) h

-- ---- its body

abbrev pub IsBody : List ℕ → Command → Type 0
IsBody = IsWritten body_bytes

pub body_is : (b : List ℕ) (c : Command) → body_of b ≡ ok c → IsBody b c
unfolding body_of
body_is b c h = judged_is body_bytes b (decode_body b) c h

pub body_of_lem : (c : Command) → well_formed c ≡ true → body_of (body_bytes c) ≡ ok c
unfolding body_of
body_of_lem c h = rw (decode_body_lem c h, h, eq_l_refl (body_bytes c))

pub body_at : (b : List ℕ) (c : Command) → well_formed c ≡ true → body_bytes c ≡ b → body_of b ≡ ok c
body_at b c h e = subst (λ s. body_of s ≡ ok c) e (body_of_lem c h)

pub body_refused : (b : List ℕ) → ((c : Command) → body_of b ≡ ok c → ⊥) → body_of b ≡ bad not_well_formed 0
unfolding body_of
body_refused b h = judged_refused body_bytes b (decode_body b) h

-- ---- both

pub record_body : (r : List ℕ) (c : Command) → record_of r ≡ ok c → body_of (drop head_size r) ≡ ok c
record_body r c h = let is : IsRecord r c = record_is r c h in body_at (drop head_size r) c is.well (ap (drop head_size) is.bytes)

pub record_room : (r : List ℕ) (c : Command) → record_of r ≡ ok c → head_size ≤ length r
record_room r c h = omega (arith, ap length (record_is r c h).bytes)

-- the same of the slice from behind the head
pub record_part : (r : List ℕ) (c : Command) → record_of r ≡ ok c → body_of (part r head_size) ≡ ok c
record_part r c h = ap body_of (part_from r head_size) ∙ record_body r c h

pub headed_record : (b : List ℕ) (c : Command) → body_of b ≡ ok c → record_of (head_bytes (count c) ++ b) ≡ ok c
headed_record b c h =
    let is : IsBody b c = body_is b c h in
    record_at (head_bytes (count c) ++ b) c is.well (ap (λ s. head_bytes (count c) ++ s) is.bytes)
