-- What is put and what the rest will put are the whole text.
use borrow.Author.Rules.{rules}
use Rattle.print_unit.proofs.StringLaws.{character_fits, doubling_end, doubling_more, doubling_none}
use Rattle.print_unit.proofs.put_doubled.Goals as goal

pub loop-b-init : goal.loop-b-init
loop-b-init g c = let a = c.args in doubling_none g.S.Sink.way a.out.now a.content.now a.at

pub put_character-at-requires : goal.put_character-at-requires
put_character-at-requires g c = search (rules, character_fits)

pub loop-b-preserved : goal.loop-b-preserved
loop-b-preserved g c = search (rules, doubling_more)

pub returns : goal.returns
returns g c = search (rules, doubling_end)
