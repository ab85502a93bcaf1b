use Rattle.scene_commands.proofs.CallerLemmas.{none-covers}
use Rattle.scene_cases.specs.Owning.{owning_kinds}
use Rattle.scene_cases.proofs.commands.course.take_step.Goals as goal

pub kill_entity-requires-clause-covers : goal.kill_entity-requires-clause-covers
kill_entity-requires-clause-covers c = none-covers owning_kinds c.new.result c.args.world.now c.new.ensures
