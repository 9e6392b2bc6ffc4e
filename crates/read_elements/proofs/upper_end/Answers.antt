-- `upper_end` meets its contract: the separator's kind says whether a range follows.
use borrow.Author.Rules.{rules}
use mathlib.Core.Path.{sym, ◌∙◌}
use Rattle.read_elements.proofs.ElementLaws.{up_end, up_range, up_bad}
use Rattle.read_elements.proofs.upper_end.Goals as goal

pub returns-then-begins : goal.returns-then-begins
returns-then-begins c = search (rules, up_end)

pub ranged-requires : goal.ranged-requires
ranged-requires c = rw (← c.sep_kind-kind.ensures) (sym c.begins.ensures ∙ c.if-begins.false)

pub returns-then-eq : goal.returns-then-eq
returns-then-eq c = up_range _ _ _ _ _ c.sep_kind-kind.result c.range_kind.result c.sep_kind-kind.ensures c.range_kind.ensures c.eq.ensures c.if-eq.true c.ranged.ensures

pub returns : goal.returns
returns c = up_bad _ _ _ _ _ c.sep_kind-kind.result c.range_kind.result c.sep_kind-kind.ensures c.begins.ensures c.if-begins.false c.range_kind.ensures c.eq.ensures c.if-eq.false c.sep_place.ensures c.at.ensures
