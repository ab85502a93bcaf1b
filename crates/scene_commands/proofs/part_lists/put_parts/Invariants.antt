use Rattle.std.proofs.Common.{map, drop}
use Rattle.scene_model.specs.Declaring.{texts}
use Rattle.scene_document.specs.DraftViews.{plain_entity}
use Rattle.scene_commands.specs.Entries.{with_parts}
use Rattle.scene_world.specs.Places.{kinds_of}
use Rattle.scene_commands.specs.Becoming.{Becomes}
use Rattle.scene_commands.proofs.part_lists.put_parts.Given as goal

abbrev pub invariant-loop-index : goal.invariant-loop-index
invariant-loop-index g l = Becomes (kinds_of g.R.Value.SceneValue.places g.R.DocumentRules.part_of g.R.WorldRules.columns) (with_parts (map (plain_entity g.R.DocumentRules.part_of (texts l.names)) (drop l.index l.entities))) l.initial.world l.world
