use Rattle.shred_stages.proofs.PlanLemmas.{same-list}
use Rattle.shred_stages.proofs.laws.order_does_not_matter.Goals as goal

pub returns : goal.returns
returns g c = same-list _
