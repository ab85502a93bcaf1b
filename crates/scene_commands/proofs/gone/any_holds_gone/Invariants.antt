use Rattle.std.proofs.Common.{◌≡◌, false, take}
use Rattle.std.specs.Prelude.{option_map}
use Rattle.std.specs.List.{list_any}
use Rattle.scene_model.specs.Commands.{holds_gone}
use Rattle.scene_model.specs.Declaring.{texts}
use Rattle.scene_world.specs.Places.{kinds_of}
use Rattle.scene_world.specs.Rolls.{ref_to}
use Rattle.scene_world.specs.Standing.{column_of, roll_of}
use Rattle.scene_world.specs.Stored.{part_under}
use Rattle.scene_commands.specs.Acts.{seen_of}
use Rattle.scene_commands.proofs.gone.any_holds_gone.Given as goal

abbrev pub invariant-loop-kind : goal.invariant-loop-kind
invariant-loop-kind g l = list_any (λ kind. holds_gone (option_map (part_under (ref_to (roll_of (kinds_of g.R.Value.SceneValue.places g.R.DocumentRules.part_of g.R.WorldRules.columns) (seen_of l.world)))) (column_of (kinds_of g.R.Value.SceneValue.places g.R.DocumentRules.part_of g.R.WorldRules.columns) (seen_of l.world) kind l.index))) (texts (take l.kind-index l.names)) ≡ false
