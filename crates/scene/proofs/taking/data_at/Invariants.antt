use Rattle.std.proofs.Common.{take}
use Rattle.scene_world.specs.Places.{kinds_of}
use Rattle.scene_commands.specs.Acts.{seen_of}
use Rattle.scene.specs.Taken.{AreOfPairs}
use Rattle.scene.proofs.taking.data_at.Given as goal

abbrev pub invariant-loop-pair : goal.invariant-loop-pair
invariant-loop-pair g l = AreOfPairs (kinds_of g.R.Value.SceneValue.places g.R.DocumentRules.part_of g.R.WorldRules.columns) g.R.DocumentRules.part_of (seen_of l.world) l.kind (take l.pair-index l.pairs) l.found.items
