use Rattle.std.proofs.Common.{◌≡◌, drop}
use Rattle.shred.specs.declared.cells.cell_core.State.TheVariants.{Free}
use Rattle.shred.specs.Cells.{IsState, after_all}
use Rattle.shred.proofs.cells.cell_core.run.Given as goal

-- the state is a cell's, and from it the steps that are left lead where all lead
abbrev pub invariant-loop-step : goal.invariant-loop-step
invariant-loop-step l = IsState l.state × (after_all l.state (drop l.step-index l.steps) ≡ after_all Free l.steps)
