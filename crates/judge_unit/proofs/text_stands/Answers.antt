-- Length and class are what the rule joins.
use borrow.Author.Rules.{rules}
use borrow.Author.Tests.{le-leb}
use mathlib.Core.Path.{◌≡◌, ◌∙◌}
use Rattle.std.specs.List.{list_all}
use Rattle.std.proofs.lemmas.Iterator.{YieldsList-from_slice}
use Rattle.std.proofs.lemmas.Iterator.Search.{all_from_yields_List}
use Rattle.rules.specs.Characters.{is_permitted}
use Rattle.units.proofs.AllLaws.{same_all}
use Rattle.judge_unit.proofs.text_stands.Goals as goal

pub returns-then-word-le-MOST_STRING : goal.returns-then-word-le-MOST_STRING
returns-then-word-le-MOST_STRING c =
    let told : c.all.result ≡ list_all is_permitted c.args.word.now =
    all_from_yields_List is_permitted _ _ c.all.result c.all.ensures.ran (YieldsList-from_slice c.args.word.now cc) (λ x b q k. search rules) in
    rw (le-leb _ _ c.if-word-le-MOST_STRING.true) (told ∙ same_all is_permitted c.args.word.now)
