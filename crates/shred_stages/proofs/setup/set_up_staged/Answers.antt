use Rattle.shred_stages.proofs.SetupLemmas.{seats-same}
use Rattle.shred_stages.proofs.setup.set_up_staged.Goals as goal

pub returns-clause-seats : goal.returns-clause-seats
returns-clause-seats g c = seats-same g.S.System.sets_up _ _ c.set_up_each.ensures.seats
