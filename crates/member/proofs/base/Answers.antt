-- `base` meets its contract: behind code pieces and a block's field stands the place's own field, with its letter.
use Rattle.member.proofs.AnswerLaws.{ahead_whole, ahead_inside, base_is_lem}
use borrow.Author.Rules.{rules}
use Rattle.member.proofs.base.Goals as goal

pub run_end-place-requires : goal.run_end-place-requires
run_end-place-requires c = search (rules, ahead_whole)

pub bounds-rec-place : goal.bounds-rec-place
bounds-rec-place c = search (rules, ahead_inside)

pub returns : goal.returns
returns c = search (rules, base_is_lem)
