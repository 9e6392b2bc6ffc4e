-- `find` meets its contract: `position` finds the first entry of the kind behind `from`, and past the table's end there is none.
use Rattle.std.proofs.Common.{rules, tests, arith}
use Rattle.std.proofs.lemmas.Iterator.{YieldsList-from_slice}
use Rattle.std.proofs.lemmas.Iterator.Search.{position_from_yields_List}
use Rattle.token_table.proofs.FindLaws.{is_wanted, find_in, find_past}
use Rattle.token_table.proofs.find.Goals as goal

pub returns-in_default : goal.returns-in_default
returns-in_default c = find_past _ _ _ (grind (arith, c.in_default.ensures.lookup))

pub returns : goal.returns
returns c =
    let p = position_from_yields_List (is_wanted c.args.wanted) _ _ c.position-stop.result c.position-stop.ensures.ran (YieldsList-from_slice _ c.iter.ensures.rest) (λ x b q k. search (rules, tests)) in
    find_in c.args.toks.now c.args.from c.args.wanted c.in-Some.rest.now c.in-Some.ensures.lookup.0.2 p c.unwrap_or.ensures
