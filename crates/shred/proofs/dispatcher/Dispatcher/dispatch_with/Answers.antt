use Rattle.shred_world.specs.Bundles.{holding_of}
use Rattle.shred.proofs.OrderLemmas.{steps-and-locals}
use Rattle.shred.proofs.dispatcher.Dispatcher.dispatch_with.Goals as goal

pub returns-in-Ok-clause-any_order : goal.returns-in-Ok-clause-any_order
returns-in-Ok-clause-any_order g c =
    steps-and-locals g.S.System.meets g.L.RunNow.meets c.args.self.now c.dispatch_par_with.new.self c.dispatch_thread_local.new.self (holding_of c.args.world.now) (holding_of c.dispatch_par_with.new.world) (holding_of c.dispatch_thread_local.new.world)
    c.in-Ok.ensures.runs.locals c.dispatch_thread_local.result c.in-Ok.ensures.any_order c.dispatch_thread_local.ensures.runs
