use Rattle.shred.proofs.LocalLemmas.{locals-leave}
use Rattle.shred.proofs.dispatcher.Dispatcher.dispatch_locals.Goals as goal

pub returns-clause-leaves : goal.returns-clause-leaves
returns-clause-leaves g c = locals-leave g.L.RunNow.meets 0 _ _ _ _ _ c.run_locals.ensures.runs
