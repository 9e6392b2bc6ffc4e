-- That one character is no digit is that not all are digits.
use borrow.Author.Rules.{rules}
use mathlib.Core.Path.{◌≡◌}
use Rattle.std.specs.List.{list_all}
use Rattle.std.proofs.lemmas.Iterator.{YieldsList-from_slice}
use Rattle.std.proofs.lemmas.Iterator.Search.{all_from_yields_List}
use Rattle.rules.specs.Characters.{is_symbol_char}
use Rattle.units.proofs.WordLaws.{symbol_yes}
use Rattle.units.proofs.is_symbolic.Goals as goal

pub returns-then-all : goal.returns-then-all
returns-then-all c =
    let told : c.all.result ≡ list_all is_symbol_char c.args.word.now =
    all_from_yields_List is_symbol_char _ _ c.all.result c.all.ensures.ran (YieldsList-from_slice c.args.word.now cc) (λ x b q k. search rules) in
    symbol_yes c.args.word.now told c.if-all.true c.all_decimal.ensures
