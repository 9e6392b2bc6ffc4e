-- `list_len` meets its contract: from the last place back, the combinations and the bytes of their arguments; no sum is more than the list has bytes.
use borrow.Author.Rules.{rules}
use Rattle.list.proofs.SizeLaws.{sizing_none, sizing_value, sizing_order, sizing_kept, sizing_bytes, sizing_first, sizing_second, sizing_orders, sizing_more, sizing_all, sizing_sum, sizing_product, sizing_heads}
use Prim.Native.Nat.{◌+◌, ◌-◌}
use native.Mathlib.Omega.{arith}
use Rattle.list.proofs.list_len.Goals as goal

pub loop-i-init : goal.loop-i-init
loop-i-init c = search (rules, sizing_none)

pub overflow_mul-len : goal.overflow_mul-len
overflow_mul-len c = search (rules, sizing_first)

pub arguments_len-requires : goal.arguments_len-requires
arguments_len-requires c = search (rules, sizing_value)

pub overflow_mul-len-in-loop-i : goal.overflow_mul-len-in-loop-i
overflow_mul-len-in-loop-i c = search (rules, sizing_second)

pub overflow_add-len : goal.overflow_add-len
overflow_add-len c = search (rules, sizing_bytes)

pub overflow_mul-orders : goal.overflow_mul-orders
overflow_mul-orders c = search (rules, sizing_orders)

pub overflow_sub-kept : goal.overflow_sub-kept
overflow_sub-kept c = search (rules, sizing_order)

pub overflow_cast-kept : goal.overflow_cast-kept
overflow_cast-kept c = omega (arith, c.shared_slice_known-in-loop-i-3-1.given (c.loop-i.i - 3 + 2))

pub overflow_sub-kept-in-loop-i : goal.overflow_sub-kept-in-loop-i
overflow_sub-kept-in-loop-i c = search (rules, sizing_kept)

pub loop-i-preserved : goal.loop-i-preserved
loop-i-preserved c = search (rules, sizing_more)

pub overflow_add-result : goal.overflow_add-result
overflow_add-result c = search (rules, sizing_heads)

pub overflow_mul-result : goal.overflow_mul-result
overflow_mul-result c = search (rules, sizing_product)

pub overflow_add-result-2 : goal.overflow_add-result-2
overflow_add-result-2 c = search (rules, sizing_sum)

pub returns : goal.returns
returns c = search (rules, sizing_all)
