-- What the iterator answers of the slice behind `from` is the rules' `all`.
use borrow.Author.Rules.{rules}
use mathlib.Core.Path.{◌≡◌, ◌∙◌}
use lib.ListN.{drop}
use Rattle.std.specs.List.{list_all}
use Rattle.std.proofs.lemmas.Iterator.{YieldsList-from_slice}
use Rattle.std.proofs.lemmas.Iterator.Search.{all_from_yields_List}
use Rattle.std.proofs.lemmas.Iterator.Adapters.{YieldsList-from_skip}
use Rattle.laws.specs.Lists.{all_at}
use Rattle.rules.specs.Characters.{is_digit}
use Rattle.units.proofs.AllLaws.{same_all}
use Rattle.units.proofs.all_decimal.Goals as goal

pub returns : goal.returns
unfolding all_at
returns c =
    let told : c.all.result ≡ list_all is_digit (drop c.args.from c.args.word.now) =
    all_from_yields_List is_digit _ _ c.all.result c.all.ensures.ran (YieldsList-from_skip c.args.from (YieldsList-from_slice c.args.word.now cc) cc) (λ x b q k. search rules) in
    told ∙ same_all is_digit (drop c.args.from c.args.word.now)
