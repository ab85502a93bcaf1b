-- What an advance makes of a number.
use Rattle.std.specs.Prelude.{◌≡◌, Some}
use Rattle.shred_world.specs.Bundles.{Holding, readable}
use Rattle.shred_tests.specs.Chores.{speed_id, sum_of}
use Rattle.shred_tests.specs.declared.values.Number.{Number}
use Rattle.shred_tests.specs.declared.values.Speed.{Speed}
use Rattle.shred_tests.specs.declared.values.Value.{Value}
use Rattle.shred_tests.specs.declared.values.Value.TheVariants.{SpeedValue}

-- the number has gained the speed that is held
pub record Advances (number : Number) (held : Holding Value) (after : Number) : Type 0 where
  pub speed : Speed
  pub read : readable (held speed_id) ≡ Some (SpeedValue speed)
  pub gains : after.0 ≡ sum_of number.0 speed.0
