-- `is_decimal` meets its contract: its tests are the definition's, in its order.
use mathlib.Core.Path.{refl}
use Rattle.digits.specs.Digits.{plain_letter}
use Rattle.judge_unit.proofs.is_decimal.Goals as goal

pub fraction_stands-requires : goal.fraction_stands-requires
unfolding plain_letter
fraction_stands-requires c = refl
