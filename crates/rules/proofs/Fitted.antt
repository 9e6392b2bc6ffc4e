-- A call that has its bytes at hand: 17 with their number where the buffer is shorter, and else they stand over its start.
use Prim.Native.Nat.{ℕ, ◌≤◌, ◌<◌}
use mathlib.Core.Path.{◌≡◌}
use mathlib.Core.Bool.{true, false}
use mathlib.Core.List.{List}
use native.Mathlib.Omega.{arith}
use lib.Dec.{leb}
use lib.ListN.{length}
use borrow.Author.Tests.{lt-leb, le-leb}
use Rattle.std.proofs.Common.{Ok, Err}
use Rattle.laws.specs.Over.{over}
use Rattle.rules.specs.Reasons.{refusal}
use Rattle.rules.specs.Refusals.{ok, no_room}
use Rattle.rules.specs.Answers.{fitted, Promise}

module _ (w old : List ℕ) where
  pub no_room_lem : {n : ℕ} → n ≡ length w → length old < n → Promise (fitted old (ok w)) old (Err (refusal no_room n)) old
  no_room_lem e h =
      let t : leb (length w) (length old) ≡ false = lt-leb (length w) (length old) (omega arith) in
      record { answers = rw (t, e); holds = rw t }

  pub measured_fits : {n : ℕ} → n ≡ length w → n ≤ length old → length w ≤ length old
  measured_fits e h = omega arith

  pub room : {n : ℕ} {new : List ℕ} → n ≡ length w → length w ≤ length old → new ≡ over w old → Promise (fitted old (ok w)) old (Ok n) new
  room e h q =
      let t : leb (length w) (length old) ≡ true = le-leb (length w) (length old) h in
      record { answers = rw (t, e); holds = rw t q }
