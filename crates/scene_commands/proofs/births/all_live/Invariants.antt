use Rattle.std.proofs.Common.{◌≡◌, true, map, take}
use Rattle.std.specs.List.{list_all}
use Rattle.scene_model.specs.Commands.{refs_live}
use Rattle.scene_model.specs.Queues.{plain_entry}
use Rattle.scene_world.specs.Places.{kinds_of}
use Rattle.scene_world.specs.Standing.{roll_of}
use Rattle.scene_world.specs.Rolls.{ids_in}
use Rattle.scene_commands.specs.Acts.{seen_of}
use Rattle.scene_commands.proofs.births.all_live.Given as goal

abbrev pub invariant-loop-part : goal.invariant-loop-part
invariant-loop-part g l = list_all (λ entry. refs_live (ids_in (roll_of (kinds_of g.R.Value.SceneValue.places g.R.DocumentRules.part_of g.R.WorldRules.columns) (seen_of l.world))) entry.1) (map (plain_entry g.R.DocumentRules.part_of) (take l.part-index l.parts)) ≡ true
