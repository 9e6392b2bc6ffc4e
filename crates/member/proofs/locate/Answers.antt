-- `locate` meets its contract: the base is that of the place whose value is searched.
use Rattle.member.proofs.AnswerLaws.{row_ahead, row_sought, row_found, row_wrong}
use borrow.Author.Rules.{rules}
use Rattle.member.proofs.locate.Goals as goal

pub base-base-requires : goal.base-base-requires
base-base-requires c = search (rules, row_ahead)

pub position-requires : goal.position-requires
position-requires c = search (rules, row_sought)

pub returns-then-stands : goal.returns-then-stands
returns-then-stands c = search (rules, row_found)

pub returns : goal.returns
returns c = search (rules, row_wrong)
