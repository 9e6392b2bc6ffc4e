-- Length, classes, that it is no numeral and no `++` are what the rule joins, in any order.
use borrow.Author.Rules.{rules}
use native.Mathlib.Omega.{arith}
use Rattle.judge_unit.proofs.StandLaws.{symbol_yes}
use Rattle.judge_unit.proofs.symbol_stands.Goals as goal
use Rattle.judge_unit.proofs.symbol_stands.Goals.{then-is_symbolic, else-is_symbolic, then-not-is_identifier, else-not-is_identifier, then-word-le-MOST_WORD, else-word-le-MOST_WORD}

pub returns-then-no_numeral : goal.returns-then-no_numeral
returns-then-no_numeral c =
    elim c.if-is_symbolic.branch [
      | then-is_symbolic w ↦
          elim c.if-not-is_identifier.branch [
            | then-not-is_identifier v ↦
                elim c.if-word-le-MOST_WORD.branch [
                  | then-word-le-MOST_WORD u ↦ search (rules, symbol_yes)
                  | else-word-le-MOST_WORD u ↦ grind arith
                ]
            | else-not-is_identifier v ↦ grind arith
          ]
      | else-is_symbolic w ↦ grind arith
    ]
