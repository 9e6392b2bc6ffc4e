-- At every turn the places done stand in the buffer, the others stand in the record.
use native.Mathlib.Omega.{arith}
use Rattle.print_text.proofs.CommandLaws.{all_put, code_fits, code_put, counting_code, counting_more, last_fits, place_fits, place_on}
use Rattle.print_text.proofs.put_all.Goals as goal

pub put_pieces-put-requires : goal.put_pieces-put-requires
put_pieces-put-requires g c = code_fits c.requires.0 c.requires.1

pub loop-put-init : goal.loop-put-init
loop-put-init g c = counting_code c.requires.0 c.put_pieces-put.ensures

pub put_place-put-requires : goal.put_place-put-requires
put_place-put-requires g c = place_fits c.requires.1 (code_put c.requires.0 c.put_pieces-put.ensures) c.loop-put.invariant c.loop-put-test.true

pub loop-put-preserved : goal.loop-put-preserved
loop-put-preserved g c = counting_more c.loop-put.invariant c.loop-put-test.true c.put_place-put.ensures

pub loop-put-smaller : goal.loop-put-smaller
loop-put-smaller g c = place_on c.loop-put.invariant c.loop-put-test.true c.put_place-put.ensures

pub put_u8-requires : goal.put_u8-requires
put_u8-requires g c = last_fits c.requires.1 (code_put c.requires.0 c.put_pieces-put.ensures) c.loop-put.invariant (omega arith)

pub returns : goal.returns
returns g c = all_put c.requires.1 (code_put c.requires.0 c.put_pieces-put.ensures) c.loop-put.invariant (omega arith) c.put_u8.ensures
