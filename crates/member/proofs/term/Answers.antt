-- `term` meets its contract: a single element's units are compared with the argument's, and a range asks for the step.
use Rattle.member.proofs.TermLaws.{term_range, term_single, term_other}
use mathlib.Core.Path.{sym, ◌∙◌}
use borrow.Author.Rules.{rules}
use Rattle.member.proofs.term.Goals as goal

pub range_term-requires : goal.range_term-requires
range_term-requires c = sym c.is_range.ensures ∙ c.if-is_range.true

pub returns-then-is_range : goal.returns-then-is_range
returns-then-is_range c = search (rules, term_range)

pub returns-then-eq : goal.returns-then-eq
returns-then-eq c = search (rules, term_single)

pub returns : goal.returns
returns c = search (rules, term_other)
