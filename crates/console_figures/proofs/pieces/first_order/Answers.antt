-- `console_figures::pieces::first_order` meets its contract: where no length fits, nothing stands behind it.
-- Assumes nothing.
use native.Mathlib.Omega.{arith}
use mathlib.Core.Path.{◌∙◌}
use lib.ListN.{drop_of_length-le}
use lib.Seq.{take-nil}
use Rattle.laws.specs.Over.{part_from}
use Rattle.rules.specs.Listing.{length_size}
use Rattle.console_figures.proofs.pieces.first_order.Goals as goal

pub returns-then-list-lt-LENGTH_FIELD : goal.returns-then-list-lt-LENGTH_FIELD
returns-then-list-lt-LENGTH_FIELD c = rw (drop_of_length-le c.args.list.now {i = length_size} (omega arith), take-nil)

pub returns : goal.returns
returns c = c.front.ensures ∙ rw (part_from c.args.list.now length_size, c.number_at-n.ensures)
