use Rattle.std.proofs.Common.{take}
use Rattle.scene_model.specs.Declaring.{texts}
use Rattle.scene_world.specs.Places.{kinds_of}
use Rattle.scene_commands.specs.Acts.{seen_of}
use Rattle.scene_commands.specs.Watching.{WatchesKinds}
use Rattle.scene_commands.proofs.watching.watch_kinds.Given as goal

abbrev pub invariant-loop-kind : goal.invariant-loop-kind
invariant-loop-kind g l = WatchesKinds (kinds_of g.R.Value.SceneValue.places g.R.DocumentRules.part_of g.R.WorldRules.columns) (texts (take l.kind-index l.names)) l.watchers.items (seen_of l.initial.world) (seen_of l.world)
