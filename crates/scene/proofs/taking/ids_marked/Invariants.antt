use Rattle.std.proofs.Common.{take}
use Rattle.scene_world.specs.Places.{kinds_of}
use Rattle.scene_world.specs.Standing.{roll_of}
use Rattle.scene_commands.specs.Acts.{seen_of}
use Rattle.scene.specs.Taken.{AreMarkedBy}
use Rattle.scene.proofs.taking.ids_marked.Given as goal

abbrev pub invariant-loop-entity : goal.invariant-loop-entity
invariant-loop-entity g l = AreMarkedBy (roll_of (kinds_of g.R.Value.SceneValue.places g.R.DocumentRules.part_of g.R.WorldRules.columns) (seen_of l.world)) (take l.entity-index l.named) l.ids.items
