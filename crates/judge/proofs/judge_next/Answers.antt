-- `judge_next` meets its contract: a place is read, and in a named block its name is told by the places before it.
use Rattle.judge.proofs.NextLaws.{next_none, places_whole, name_there_enough, begin_inside, next_unnamed, next_once, next_twice}
use native.Mathlib.Omega.{arith}
use Rattle.judge.proofs.judge_next.Goals as goal

pub returns-in_err-place : goal.returns-in_err-place
returns-in_err-place c = let a = c.args in rw c.from_residual.ensures (next_none a.named a.rec.now a.from a.at a.known c.in_err-place.ensures)

pub slice_bounds-tell-end-then-named : goal.slice_bounds-tell-end-then-named
slice_bounds-tell-end-then-named c = let a = c.args in begin_inside a.named a.rec.now a.at c.in_ok-place.ensures

pub tell-requires : goal.tell-requires
tell-requires c =
    let a = c.args in (
      places_whole c.requires.1.1,
      name_there_enough a.named a.rec.now a.at c.in_ok-place.ensures c.requires.0 (λ i. omega (arith, c.shared_slice_known-1.given i)) c.if-named.true,
    )

-- the place was read before its name was told

pub returns-in_err-key : goal.returns-in_err-key
returns-in_err-key c =
    let a = c.args in
    rw c.from_residual-in_err-key.ensures
    (next_twice a.named a.rec.now a.from a.at c.requires.0 (λ i. omega (arith, c.shared_slice_known-1.given i)) c.in_ok-place.ensures c.tell.ensures c.if-named.true c.in_err-key.was)

pub returns-in_ok-key : goal.returns-in_ok-key
returns-in_ok-key c =
    let a = c.args in
    next_once a.named a.rec.now a.from a.at c.requires.0 (λ i. omega (arith, c.shared_slice_known-1.given i)) c.in_ok-place.ensures c.tell.ensures c.if-named.true c.in_ok-key.was

pub returns-else-named : goal.returns-else-named
returns-else-named c =
    let a = c.args in
    next_unnamed a.named a.rec.now a.from a.at c.requires.0 (λ i. omega (arith, c.shared_slice_known-1.given i)) c.in_ok-place.ensures 0 c.if-named.false
