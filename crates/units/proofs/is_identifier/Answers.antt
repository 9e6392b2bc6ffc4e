-- The first character and those behind it are tested as the rule does.
use borrow.Author.Rules.{rules}
use mathlib.Core.Path.{◌≡◌}
use Rattle.std.specs.List.{list_all}
use Rattle.std.proofs.lemmas.Iterator.{YieldsList-from_slice}
use Rattle.std.proofs.lemmas.Iterator.Search.{all_from_yields_List}
use Rattle.rules.specs.Characters.{is_alnum}
use Rattle.units.proofs.WordLaws.{ident_some}
use Rattle.units.proofs.is_identifier.Goals as goal

pub returns-then-is_letter : goal.returns-then-is_letter
returns-then-is_letter c =
    let told : c.all.result ≡ list_all is_alnum c.in-Some.rest.now =
    all_from_yields_List is_alnum _ _ c.all.result c.all.ensures.ran (YieldsList-from_slice c.in-Some.rest.now cc) (λ x b q k. search rules) in
    search (rules, ident_some)
