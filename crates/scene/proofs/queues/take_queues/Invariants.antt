use Rattle.std.proofs.Common.{◌≡◌, map, take}
use Rattle.scene_model.specs.Queues.{plain_commands, waiting}
use Rattle.scene_world.specs.Standing.{commands_of}
use Rattle.scene_world.specs.Places.{kinds_of}
use Rattle.scene_commands.specs.Acts.{seen_of}
use Rattle.scene.specs.Waiting.{StaysBeside}
use Rattle.scene.proofs.queues.take_queues.Given as goal

abbrev pub invariant-loop-place : goal.invariant-loop-place
invariant-loop-place g l = record {
  queues : map (λ queue. plain_commands g.R.DocumentRules.part_of (waiting queue)) l.queues.items ≡ map (commands_of (kinds_of g.R.Value.SceneValue.places g.R.DocumentRules.part_of g.R.WorldRules.columns) (seen_of l.initial.world)) (take l.place-index l.places);
  beside : StaysBeside (kinds_of g.R.Value.SceneValue.places g.R.DocumentRules.part_of g.R.WorldRules.columns) (take l.place-index l.places) l.initial.world l.world;
}
