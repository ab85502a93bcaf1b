use Rattle.shred_stages.proofs.CallerLemmas.{leaves-itself}
use Rattle.scene_tests.proofs.whole_runs.gated.GatedRules.run.Goals as goal

pub returns-then-passes-clause-leaves : goal.returns-then-passes-clause-leaves
returns-then-passes-clause-leaves g c = leaves-itself _

pub returns-else-passes-clause-leaves : goal.returns-else-passes-clause-leaves
returns-else-passes-clause-leaves g c = leaves-itself _
