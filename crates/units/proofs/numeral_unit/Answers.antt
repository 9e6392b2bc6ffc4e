-- Under K the rules ask for a run of keyed digits; any other base's numeral is the rules' by `plain_is`.
use borrow.Author.Rules.{rules}
use mathlib.Core.Path.{◌≡◌, ◌∙◌}
use lib.ListN.{length, take, drop}
use Prim.Native.Nat.{◌-◌}
use Rattle.std.specs.List.{list_all}
use Rattle.std.proofs.lemmas.Iterator.{YieldsList-from_slice}
use Rattle.std.proofs.lemmas.Iterator.Search.{all_from_yields_List}
use Rattle.rules.specs.Units.{is_key}
use Rattle.units.proofs.NumeralLaws.{plain_is}
use Rattle.units.proofs.WordLaws.{keys_yes, keys_no, keys_none}
use Rattle.units.proofs.numeral_unit.Goals as goal
use Rattle.units.proofs.numeral_unit.Goals.{else-from-word-via-then-from-word+else-all, else-from-word-via-else-from-word}

pub returns-then-letter-ne75 : goal.returns-then-letter-ne75
returns-then-letter-ne75 c = let a = c.args in c.plain_unit.ensures ∙ plain_is a.letter a.word.now a.from c.if-letter-ne75.true

pub returns-then-all : goal.returns-then-all
returns-then-all c =
    let a = c.args in
    let told : c.all.result ≡ list_all is_key (take (length a.word.now - a.from) (drop a.from a.word.now)) =
    all_from_yields_List is_key _ _ c.all.result c.all.ensures.ran (YieldsList-from_slice (take (length a.word.now - a.from) (drop a.from a.word.now)) cc) (λ x b q k. search rules) in
    keys_yes a.letter a.word.now a.from c.if-letter-ne75.false c.if-from-word.true told c.if-all.true

pub returns-else-from-word : goal.returns-else-from-word
returns-else-from-word c =
    let a = c.args in
    elim c.else-from-word.branch [
      | else-from-word-via-then-from-word+else-all w ↦
          let told : w.all.result ≡ list_all is_key (take (length a.word.now - a.from) (drop a.from a.word.now)) =
          all_from_yields_List is_key _ _ w.all.result w.all.ensures.ran (YieldsList-from_slice (take (length a.word.now - a.from) (drop a.from a.word.now)) cc) (λ x b q k. search rules) in
          keys_no a.letter a.word.now a.from c.if-letter-ne75.false told w.if-all.false
      | else-from-word-via-else-from-word w ↦ keys_none a.letter a.word.now a.from c.if-letter-ne75.false w.if-from-word.false
    ]
