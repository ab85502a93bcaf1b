use Rattle.std.proofs.Common.{map, drop}
use Rattle.scene_commands.specs.Entries.{with_entities}
use Rattle.scene_world.specs.Places.{kinds_of}
use Rattle.scene_commands.specs.Becoming.{Becomes}
use Rattle.scene_commands.proofs.entering.enter_entities.Given as goal

abbrev pub invariant-loop-index : goal.invariant-loop-index
invariant-loop-index g l = Becomes (kinds_of g.R.Value.SceneValue.places g.R.DocumentRules.part_of g.R.WorldRules.columns) (with_entities (map (λ entity. entity.id) (drop l.index l.entities))) l.initial.world l.world
