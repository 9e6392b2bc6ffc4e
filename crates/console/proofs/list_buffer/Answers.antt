-- `console::list_buffer` meets its contract, by a law: so many zeros cannot be counted by computing. With its level and its type
-- the law is compared as it stands.
-- Assumes nothing.
use Prim.Native.Nat.{ℕ}
use mathlib.Core.Path.{sym}
use lib.ListN.{length-replicate}
use Rattle.console.proofs.list_buffer.Goals as goal

pub returns : goal.returns
returns c = sym (length-replicate {0} {A = ℕ} 4194304 0)
