-- `name_at` meets its contract: a place's name is the run of tag 4 behind its field.
use borrow.Author.Rules.{rules}
use Rattle.record_walk.proofs.RunLaws.{whole_next}
use Rattle.judge_names.proofs.NameLaws.{name_found}
use Rattle.judge_names.proofs.name_at.Goals as goal

pub name_end-end-requires : goal.name_end-end-requires
name_end-end-requires c = search (rules, whole_next)

pub returns : goal.returns
returns c = search (rules, name_found)
