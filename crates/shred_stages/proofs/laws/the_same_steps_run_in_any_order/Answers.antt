use Rattle.shred_stages.proofs.PlanLemmas.{plan-in-any-order}
use Rattle.shred_stages.proofs.laws.the_same_steps_run_in_any_order.Goals as goal

pub returns : goal.returns
returns g c = plan-in-any-order _ _
