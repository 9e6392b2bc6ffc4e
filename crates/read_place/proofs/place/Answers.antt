-- `place` meets its contract: its tests are those of the rule, in the rule's order.
use borrow.Author.Rules.{rules}
use native.Mathlib.Omega.{arith}
use Rattle.read_bases.specs.Bases.{bases_in}
use Rattle.read_place.proofs.PlaceLaws.{alike, place_many, place_differs, place_named, place_position}
use Rattle.read_place.proofs.place.Goals as goal

pub returns-then-n-ge-MOST_PLACES : goal.returns-then-n-ge-MOST_PLACES
returns-then-n-ge-MOST_PLACES c = λ ns w. search (rules, place_many)

pub returns-then-is_named-named : goal.returns-then-is_named-named
returns-then-is_named-named c = λ ns w. search (rules, place_differs)

pub returns-then-is_named : goal.returns-then-is_named
returns-then-is_named c = λ ns w.
    let a = c.args in
    place_named a.before.now a.toks.now a.contents.now (bases_in a.bases.now) a.named a.n a.marks a.end ns w (omega arith) c.find-equals.ensures (alike _ _ c.if-is_named-named.false) c.if-is_named.true c.named_place.ensures

pub returns-else-is_named : goal.returns-else-is_named
returns-else-is_named c = λ ns w. search (rules, place_position)
