use Rattle.std.proofs.Common.{◌≡◌, map, Some}
use Rattle.serde_json.specs.View.{view}
use Rattle.scene_sight.specs.Paths.{plain_step, found}
use Rattle.scene_sight.proofs.paths.standing_part.Given as goal

-- the part leads to what is looked at
abbrev pub invariant-loop-step : goal.invariant-loop-step
invariant-loop-step l = found (map plain_step l.part.items) (view l.value) ≡ Some (view l.here)
