use Rattle.std.proofs.Common.{take}
use Rattle.scene_world.specs.Places.{kinds_of}
use Rattle.scene_commands.specs.Acts.{seen_of}
use Rattle.scene.specs.Waiting.{NoneWaitsAt, StaysBeside}
use Rattle.scene.proofs.queues.put_queues.Given as goal

abbrev pub invariant-loop-place : goal.invariant-loop-place
invariant-loop-place g l = record {
  empty : NoneWaitsAt (kinds_of g.R.Value.SceneValue.places g.R.DocumentRules.part_of g.R.WorldRules.columns) (take l.place-index l.places) (seen_of l.world);
  beside : StaysBeside (kinds_of g.R.Value.SceneValue.places g.R.DocumentRules.part_of g.R.WorldRules.columns) (take l.place-index l.places) l.initial.world l.world;
}
