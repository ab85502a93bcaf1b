use Rattle.std.proofs.Common.{map, drop}
use Rattle.scene_model.specs.Declaring.{texts}
use Rattle.scene_document.specs.DraftViews.{named}
use Rattle.scene_commands.specs.Entries.{with_values}
use Rattle.scene_world.specs.Places.{kinds_of}
use Rattle.scene_commands.specs.Becoming.{Becomes}
use Rattle.scene_commands.proofs.globals.put_globals.Given as goal

abbrev pub invariant-loop-index : goal.invariant-loop-index
invariant-loop-index g l = Becomes (kinds_of g.R.Value.SceneValue.places g.R.DocumentRules.part_of g.R.WorldRules.columns) (with_values (map (named g.R.DocumentRules.global_of (texts l.names)) (drop l.index l.globals))) l.initial.world l.world
