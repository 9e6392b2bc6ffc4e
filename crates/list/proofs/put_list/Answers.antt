-- `put_list` meets its contract: the bytes needed are known before the first is written.
use borrow.Author.Rules.{rules}
use Rattle.rules.proofs.Fitted.{no_room_lem, measured_fits, room}
use Rattle.list.proofs.UnrollLaws.{need_small}
use Rattle.list.proofs.put_list.Goals as goal

pub overflow_cast-need : goal.overflow_cast-need
overflow_cast-need c = search (rules, need_small)

pub returns-then-out-need : goal.returns-then-out-need
returns-then-out-need c = search (rules, no_room_lem)

pub put_pieces-requires : goal.put_pieces-requires
put_pieces-requires c = search (rules, measured_fits)

pub overflow_cast-result : goal.overflow_cast-result
overflow_cast-result c = search (rules, need_small)

pub returns : goal.returns
returns c = search (rules, room, measured_fits)
