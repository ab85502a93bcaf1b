use Rattle.std.proofs.Common.{sym, subst, refl}
use Rattle.shred.specs.Dispatching.{DispatchesLocals}
use Rattle.shred.specs.Asyncs.{Owned, here, Does, Ends}
use Rattle.shred.specs.Places.{owned_in}
use Rattle.shred.proofs.async_dispatcher.AsyncDispatcher.run_locals.Goals as goal

pub returns : goal.returns
returns g c =
    let P : Owned g.row.V.Denot g.row.S.Denot g.row.L.Denot → Type 0 = λ owned. Does (Ends (DispatchesLocals g.S.System.meets g.L.RunNow.meets)) owned c.told.result (here c.dispatch_thread_local.new.self c.dispatch_thread_local.new.world) in
    record {
      runs = subst P c.self.view_is (subst (λ place. P (owned_in place)) (sym c.in-Here.is) (record {
        outcome = c.dispatch_thread_local.result;
        left = c.dispatch_thread_local.new.self;
        world = c.dispatch_thread_local.new.world;
        runs = c.dispatch_thread_local.ensures.runs;
        leaves = c.dispatch_thread_local.ensures.leaves;
        told = c.told.ensures;
        at_hand = refl;
      }));
    }
