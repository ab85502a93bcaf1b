use Rattle.shred.proofs.CellLemmas.{every-run-is-kept}
use Rattle.shred.proofs.cells.cell_core.run.Goals as goal

-- so it is of every list of steps
pub returns-clause-kept : goal.returns-clause-kept
returns-clause-kept c = every-run-is-kept c.args.steps.now
