-- What is paid and what the fields left pay is enough for the text, and at the end no field is left.
use borrow.Author.Rules.{rules}
use native.Mathlib.Omega.{arith}
use Rattle.print_bound.proofs.BoundLaws.{bounding, finished, numeral_fraction, numeral_letter, numeral_turn, numeral_value, other_sum, other_turn, place_base, place_turn, single_turn, stands_there}
use Rattle.print_bound.proofs.bound.Goals as goal

pub loop-at-init : goal.loop-at-init
loop-at-init c = bounding c.args.rec.now c.requires (λ i. omega (arith, c.shared_slice_known-1.given i))

-- a numeral's field

pub bounds-rec-at-then-tag : goal.bounds-rec-at-then-tag
bounds-rec-at-then-tag c = search (rules, numeral_letter)

pub bounds-rec-at-then-tag-2 : goal.bounds-rec-at-then-tag-2
bounds-rec-at-then-tag-2 c = search (rules, numeral_fraction)

pub number_at-requires : goal.number_at-requires
number_at-requires c = search (rules, numeral_value)

pub loop-at-preserved-then-tag : goal.loop-at-preserved-then-tag
loop-at-preserved-then-tag c = search (rules, numeral_turn)

pub overflow_add-sum : goal.overflow_add-sum
overflow_add-sum c = omega (arith, loop-at-preserved-then-tag c)

-- a single element's

pub loop-at-preserved-then-tag-2 : goal.loop-at-preserved-then-tag-2
loop-at-preserved-then-tag-2 c = search (rules, single_turn)

-- a place's

pub loop-at-preserved-then-tag-3 : goal.loop-at-preserved-then-tag-3
loop-at-preserved-then-tag-3 c = search (rules, place_turn)

pub bounds-rec-at-then-tag-3 : goal.bounds-rec-at-then-tag-3
bounds-rec-at-then-tag-3 c = search (rules, place_base)

-- any other

pub other_bound-sum-requires : goal.other_bound-sum-requires
other_bound-sum-requires c = search (rules, stands_there)

pub overflow_add-sum-else-tag-3 : goal.overflow_add-sum-else-tag-3
overflow_add-sum-else-tag-3 c = search (rules, other_sum)

pub size_at-at-requires : goal.size_at-at-requires
size_at-at-requires c = search (rules, stands_there)

pub loop-at-preserved : goal.loop-at-preserved
loop-at-preserved c = search (rules, other_turn)

pub overflow_add-at-else-tag-3 : goal.overflow_add-at-else-tag-3
overflow_add-at-else-tag-3 c = omega (arith, loop-at-preserved c)

pub returns : goal.returns
returns c = search (rules, finished)
