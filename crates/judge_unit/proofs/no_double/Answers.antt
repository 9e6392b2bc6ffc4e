-- The characters from here on, behind a `+` or not, decide as all do from the start.
use borrow.Author.Rules.{rules}
use Rattle.judge_unit.proofs.StandLaws.{ok_end, ok_word, ok_plus, ok_two, ok_bad}
use Rattle.judge_unit.proofs.no_double.Goals as goal
use Rattle.judge_unit.proofs.no_double.Goals.{then-is_word_char, else-is_word_char+then-b-eq43+then-not-plus, else-b-eq43-via-then-b-eq43+else-not-plus, else-b-eq43-via-else-b-eq43}

pub loop-b-preserved : goal.loop-b-preserved
loop-b-preserved c =
    elim c.if-is_word_char.branch [
      | then-is_word_char w ↦ rw w.plus-is (search (rules, ok_word))
      | else-is_word_char+then-b-eq43+then-not-plus w ↦ rw w.plus-is (search (rules, ok_plus))
    ]

pub returns-else-b-eq43 : goal.returns-else-b-eq43
returns-else-b-eq43 c =
    elim c.else-b-eq43.branch [
      | else-b-eq43-via-then-b-eq43+else-not-plus w ↦ search (rules, ok_two)
      | else-b-eq43-via-else-b-eq43 w ↦ search (rules, ok_bad)
    ]

pub returns : goal.returns
returns c = search (rules, ok_end)
