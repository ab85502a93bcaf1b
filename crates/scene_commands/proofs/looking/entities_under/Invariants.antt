use Rattle.std.proofs.Common.{◌≡◌, Some, map, take}
use Rattle.scene_world.specs.Places.{kinds_of}
use Rattle.scene_world.specs.Standing.{roll_of}
use Rattle.scene_commands.specs.Acts.{seen_of, entity_under}
use Rattle.scene_commands.proofs.looking.entities_under.Given as goal

abbrev pub invariant-loop-id : goal.invariant-loop-id
invariant-loop-id g l = map (entity_under (roll_of (kinds_of g.R.Value.SceneValue.places g.R.DocumentRules.part_of g.R.WorldRules.columns) (seen_of l.world))) (take l.id-index l.ids) ≡ map (λ entity. Some entity) l.entities.items
