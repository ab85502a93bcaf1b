use Rattle.std.proofs.Common.{take}
use Rattle.scene_world.specs.Places.{kinds_of}
use Rattle.scene_commands.specs.Owning.{HaveDied}
use Rattle.scene_commands.proofs.deaths.kill_each.Given as goal

abbrev pub invariant-loop-id : goal.invariant-loop-id
invariant-loop-id g l = HaveDied (kinds_of g.R.Value.SceneValue.places g.R.DocumentRules.part_of g.R.WorldRules.columns) (take l.id-index l.ids) l.initial.world l.world
