use Rattle.std.proofs.Common.{◌≡◌, false, take}
use Rattle.scene_model.specs.Declaring.{texts}
use Rattle.scene_world.specs.Places.{kinds_of}
use Rattle.scene_commands.specs.Acts.{seen_of}
use Rattle.scene_commands.specs.Reaching.{names_at}
use Rattle.scene_commands.proofs.reaching.any_names.Given as goal

abbrev pub invariant-loop-kind : goal.invariant-loop-kind
invariant-loop-kind g l = names_at (kinds_of g.R.Value.SceneValue.places g.R.DocumentRules.part_of g.R.WorldRules.columns) (seen_of l.world) (texts (take l.kind-index l.names)) l.index l.target ≡ false
