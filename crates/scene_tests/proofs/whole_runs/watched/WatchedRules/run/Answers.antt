use Rattle.shred_stages.proofs.CallerLemmas.{leaves-itself}
use Rattle.scene_tests.proofs.whole_runs.watched.WatchedRules.run.Goals as goal

pub returns-in-Watch-clause-leaves : goal.returns-in-Watch-clause-leaves
returns-in-Watch-clause-leaves g c = leaves-itself _

pub returns-in-Halt-clause-leaves : goal.returns-in-Halt-clause-leaves
returns-in-Halt-clause-leaves g c = leaves-itself _

pub returns-in-Found-clause-leaves : goal.returns-in-Found-clause-leaves
returns-in-Found-clause-leaves g c = leaves-itself _
