use Rattle.std.proofs.Common.{map, take}
use Rattle.scene_model.specs.Queues.{plain_entry}
use Rattle.scene_world.specs.Places.{kinds_of}
use Rattle.scene_world.specs.Standing.{roll_of}
use Rattle.scene_commands.specs.Acts.{seen_of}
use Rattle.scene_commands.specs.Newborns.{GivesParts}
use Rattle.scene_commands.proofs.births.give_parts.Given as goal

abbrev pub invariant-loop-part : goal.invariant-loop-part
invariant-loop-part g l = GivesParts (kinds_of g.R.Value.SceneValue.places g.R.DocumentRules.part_of g.R.WorldRules.columns) (roll_of (kinds_of g.R.Value.SceneValue.places g.R.DocumentRules.part_of g.R.WorldRules.columns) (seen_of l.initial.world)) l.index
    (map (plain_entry g.R.DocumentRules.part_of) (take l.part-index l.parts)) (seen_of l.initial.world) (seen_of l.world)
