use Rattle.std.proofs.Common.{◌≡◌, Some, map, drop}
use Rattle.scene_model.specs.Declaring.{texts}
use Rattle.scene_document.specs.DraftViews.{named}
use Rattle.scene_commands.specs.Entries.{with_list}
use Rattle.scene_world.specs.Places.{kinds_of}
use Rattle.scene_world.specs.Standing.{roll_of}
use Rattle.scene_commands.specs.Acts.{seen_of, entity_under}
use Rattle.scene_commands.specs.Becoming.{Becomes}
use Rattle.scene_commands.proofs.part_lists.put_list.Given as goal

abbrev pub invariant-loop-index : goal.invariant-loop-index
invariant-loop-index g l = Becomes (kinds_of g.R.Value.SceneValue.places g.R.DocumentRules.part_of g.R.WorldRules.columns) (with_list l.id (map (named g.R.DocumentRules.part_of (texts l.names)) (drop l.index l.parts))) l.initial.world l.world × (entity_under (roll_of (kinds_of g.R.Value.SceneValue.places g.R.DocumentRules.part_of g.R.WorldRules.columns) (seen_of l.world)) l.id ≡ Some l.entity)
