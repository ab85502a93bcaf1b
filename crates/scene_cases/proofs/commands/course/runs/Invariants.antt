use Rattle.scene_commands.specs.Acts.{MayAct}
use Rattle.scene_cases.specs.Owning.{owning_kinds}
use Rattle.scene_cases.proofs.commands.course.runs.Given as goal

abbrev pub invariant-loop-step : goal.invariant-loop-step
invariant-loop-step l = MayAct owning_kinds l.world
