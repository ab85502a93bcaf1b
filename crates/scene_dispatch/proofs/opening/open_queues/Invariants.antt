use Rattle.std.proofs.Common.{take, All}
use Rattle.scene_dispatch.specs.Opened.{HasEmptyQueue, StandsElse}
use Rattle.scene_dispatch.proofs.opening.open_queues.Given as goal

abbrev pub invariant-loop-position : goal.invariant-loop-position
invariant-loop-position g l = record {
  queues : All (HasEmptyQueue g.R.Value.SceneValue.places l.world) (take l.position-index l.positions);
  others : StandsElse g.R.Value.SceneValue.places (take l.position-index l.positions) l.initial.world l.world;
}
