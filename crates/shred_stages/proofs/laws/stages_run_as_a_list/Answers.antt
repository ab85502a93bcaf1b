use Rattle.shred_stages.proofs.ListLemmas.{stages-list, list-stages}
use Rattle.shred_stages.proofs.laws.stages_run_as_a_list.Goals as goal

pub returns-clause-to : goal.returns-clause-to
returns-clause-to g c = stages-list _

pub returns-clause-from : goal.returns-clause-from
returns-clause-from g c = list-stages _
