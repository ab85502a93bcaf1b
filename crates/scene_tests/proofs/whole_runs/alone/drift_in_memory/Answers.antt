use Rattle.scene_tests.proofs.AloneLemmas.{drifted-if}
use Rattle.scene_tests.proofs.whole_runs.alone.drift_in_memory.Goals as goal

pub returns-clause-drifts : goal.returns-clause-drifts
returns-clause-drifts g c = drifted-if c.in_memory.result (λ told. told.0) (λ told. told.1.items) c.args.document.now c.in_memory.ensures.run
