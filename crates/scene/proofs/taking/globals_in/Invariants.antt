use Rattle.std.proofs.Common.{◌≡◌, map, take, option_map}
use Rattle.scene_model.specs.Declaring.{texts}
use Rattle.scene_world.specs.Standing.{value_of}
use Rattle.scene_world.specs.Places.{kinds_of}
use Rattle.scene_commands.specs.Acts.{seen_of}
use Rattle.scene.proofs.taking.globals_in.Given as goal

abbrev pub invariant-loop-name : goal.invariant-loop-name
invariant-loop-name g l = map (option_map g.R.DocumentRules.global_of) l.globals.items ≡ map (value_of (kinds_of g.R.Value.SceneValue.places g.R.DocumentRules.part_of g.R.WorldRules.columns) (seen_of l.world)) (texts (take l.name-index l.names))
