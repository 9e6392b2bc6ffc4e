-- `value_of` meets its contract: a range's term has its value, and any other element is the same with every value.
use borrow.Author.Rules.{rules}
use Rattle.order_argument.specs.Terms.{term_value, valued_bytes}
use Rattle.order_argument.proofs.TermLaws.{valued_whole}
use mathlib.Core.Path.{sym, ap, ◌∙◌}
use Rattle.order_argument.proofs.value_of.Goals as goal

pub term_value-requires : goal.term_value-requires
term_value-requires c = (sym c.is_range.ensures ∙ c.if-is_range.true, search rules)

pub returns-then-is_range : goal.returns-then-is_range
returns-then-is_range c = ap (valued_bytes c.args.element.now) c.term_value.ensures

pub returns-else-is_range : goal.returns-else-is_range
returns-else-is_range c =
    let a = c.args in let x = a.element.now in
    valued_whole x 0 c.is_range.ensures c.if-is_range.false ∙ sym (valued_whole x (term_value x a.term) c.is_range.ensures c.if-is_range.false)
