-- Length and class are what the rule joins.
use borrow.Author.Rules.{rules}
use mathlib.Core.Path.{◌≡◌, ◌∙◌}
use Rattle.std.specs.List.{list_all}
use Rattle.std.proofs.lemmas.Iterator.{YieldsList-from_slice}
use Rattle.std.proofs.lemmas.Iterator.Search.{all_from_yields_List}
use Rattle.rules.specs.Units.{is_held_key}
use Rattle.judge_unit.proofs.StandLaws.{keyed_all}
use Rattle.judge_unit.proofs.keyed_stands.Goals as goal

pub returns-then-word-le-MOST_WORD : goal.returns-then-word-le-MOST_WORD
returns-then-word-le-MOST_WORD c =
    let told : c.all.result ≡ list_all is_held_key c.args.word.now =
    all_from_yields_List is_held_key _ _ c.all.result c.all.ensures.ran (YieldsList-from_slice c.args.word.now cc) (λ x b q k. search rules) in
    told ∙ keyed_all c.args.word.now c.if-word-le-MOST_WORD.true.0 c.if-word-le-MOST_WORD.true.1
