use Rattle.std.proofs.Common.{◌≡◌, ◌++◌, map, take}
use Rattle.scene_model.specs.Declaring.{texts}
use Rattle.scene_world.proofs.placed.push_parts.Given as goal

abbrev pub invariant-loop-name : goal.invariant-loop-name
invariant-loop-name g l = l.ids.items ≡ l.initial.ids.items ++ map g.R.WorldRules.columns.part_id (texts (take l.name-index l.names))
