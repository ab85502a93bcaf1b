-- What the program does: a run of the document that its reader gives, its status and its line.
use Rattle.std.specs.Prelude.{◌≡◌, ℕ, List, Option, Result}
use Rattle.scene_model.specs.declared.refusals.Report.{Report}
use Rattle.scene.specs.declared.runner.RunError.{RunError}
use Rattle.scene.specs.Outcomes.{full_bounds, Reading, Writing, RunsDocument}
use Rattle.scene_basics.specs.Systems.{basics}
use Rattle.scene_basics.specs.Lines.{line_of, status_of, Tells}

-- a run under the program's rules and the greatest limits, with the status and the line of what it came to
pub record RunsProgram (status : ℕ) (reading : Reading) (writing : Writing) (held_before held_after : Option (List ℕ)) (failures_before failures_after : ℕ) : Type 0 where
  pub outcome : Result Report RunError
  pub run : RunsDocument basics full_bounds outcome reading writing
  pub told : status ≡ status_of outcome
  pub line : Tells (line_of outcome) held_before held_after failures_before failures_after
