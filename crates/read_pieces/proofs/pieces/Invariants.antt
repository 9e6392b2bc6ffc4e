-- `pieces` meets its contract: at every turn the rest of the tokens has the verdict of the whole.
use mathlib.Core.Path.{◌≡◌}
use lib.ListN.{drop}
use mathlib.Core.Bool.{true, false}
use Rattle.rules.specs.Reasons.{number}
use Rattle.read_pieces.specs.Pieces.{pieces_at}
use Rattle.read_pieces.proofs.pieces.Given as goal

abbrev pub invariant-loop-t : goal.invariant-loop-t
invariant-loop-t l = pieces_at (number l.reason) false l.names l.most true l.contents l.toks l.end ≡ pieces_at (number l.reason) l.index l.names l.left l.want l.contents (drop l.t-index l.toks) l.end
