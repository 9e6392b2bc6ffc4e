-- `letters` meets its contract: at every turn the letters from here on have the verdict of the whole list.
use borrow.Author.Rules.{rules}
use Rattle.read_bases.proofs.BaseLaws.{letters_end, letters_many, letters_wrong, letters_more}
use Rattle.read_bases.proofs.letters.Goals as goal
use Rattle.read_bases.proofs.letters.Goals.{then-i-ge-MOST_LETTERS-via-then-i-ge-MOST_LETTERS, then-i-ge-MOST_LETTERS-via-else-i-ge-MOST_LETTERS+then-not-is_letter}

pub returns-then-i-ge-MOST_LETTERS : goal.returns-then-i-ge-MOST_LETTERS
returns-then-i-ge-MOST_LETTERS c =
    elim c.then-i-ge-MOST_LETTERS.branch [
      | then-i-ge-MOST_LETTERS-via-then-i-ge-MOST_LETTERS w ↦ search (rules, letters_many)
      | then-i-ge-MOST_LETTERS-via-else-i-ge-MOST_LETTERS+then-not-is_letter w ↦ search (rules, letters_wrong)
    ]

pub loop-i-preserved : goal.loop-i-preserved
loop-i-preserved c = (search (rules, letters_more), search rules)

pub returns : goal.returns
returns c = search (rules, letters_end)
