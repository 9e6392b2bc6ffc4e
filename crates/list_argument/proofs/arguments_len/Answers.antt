-- `arguments_len` meets its contract: what is counted, and the arguments of the elements that are left, are all; nothing wraps, since a value's end is told in two bytes.
use borrow.Author.Rules.{rules}
use Rattle.record_walk.proofs.ValueLaws.{value_whole}
use Rattle.list_argument.proofs.SumLaws.{summing_none, summing_more, summing_fits, summing_product, summing_less, summing_all}
use Rattle.list_argument.proofs.arguments_len.Goals as goal

pub loop-at-init : goal.loop-at-init
loop-at-init c = search (rules, summing_none)

pub element_end-end-requires : goal.element_end-end-requires
element_end-end-requires c = search (rules, value_whole)

pub overflow_mul-len : goal.overflow_mul-len
overflow_mul-len c = search (rules, summing_product)

pub overflow_add-len-in-loop-at : goal.overflow_add-len-in-loop-at
overflow_add-len-in-loop-at c = search (rules, summing_fits)

pub loop-at-smaller : goal.loop-at-smaller
loop-at-smaller c = search (rules, summing_less)

pub loop-at-preserved : goal.loop-at-preserved
loop-at-preserved c = search (rules, summing_more)

pub returns : goal.returns
returns c = search (rules, summing_all)
