-- Separator, name and value are put one behind the other.
use native.Mathlib.Omega.{arith}
use Rattle.print_text.proofs.PlaceLaws.{content_fits, mark_fits, name_fits, own_inside, place_put, place_starts}
use Rattle.print_text.proofs.put_place.Goals as goal

pub bounds-rec-from : goal.bounds-rec-from
bounds-rec-from g c = place_starts c.requires

pub bounds-rec-from-2 : goal.bounds-rec-from-2
bounds-rec-from-2 g c = place_starts c.requires

pub put_u8-end-requires : goal.put_u8-end-requires
put_u8-end-requires g c = mark_fits c.own_field-own.ensures c.requires c.separator.ensures

pub overflow_add-base : goal.overflow_add-base
overflow_add-base g c = omega (arith, own_inside c.own_field-own.ensures c.requires)

pub bounds-rec-own : goal.bounds-rec-own
bounds-rec-own g c = omega (arith, own_inside c.own_field-own.ensures c.requires)

pub overflow_add-name : goal.overflow_add-name
overflow_add-name g c = omega (arith, own_inside c.own_field-own.ensures c.requires)

pub put_name-value-requires : goal.put_name-value-requires
put_name-value-requires g c = name_fits c.own_field-own.ensures c.requires c.separator.ensures c.put_u8-end.ensures

pub put_content-requires : goal.put_content-requires
put_content-requires g c = content_fits c.own_field-own.ensures c.requires c.separator.ensures c.put_u8-end.ensures c.put_name-value.ensures

pub returns : goal.returns
returns g c = place_put c.own_field-own.ensures c.separator.ensures c.put_u8-end.ensures c.put_name-value.ensures c.put_content.ensures
