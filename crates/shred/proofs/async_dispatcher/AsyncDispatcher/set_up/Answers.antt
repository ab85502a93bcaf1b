use Rattle.std.proofs.Common.{sym, subst, refl}
use Rattle.std.specs.Prelude.{is_ok}
use Rattle.shred.specs.Asyncs.{Owned, here, Does, SetsUpOwned}
use Rattle.shred.specs.Places.{owned_in}
use Rattle.shred.proofs.async_dispatcher.AsyncDispatcher.set_up.Goals as goal

pub returns : goal.returns
returns g c =
    let P : Owned g.row.V.Denot g.row.S.Denot g.row.L.Denot → Type 0 = λ owned. Does (SetsUpOwned g.S.System.sets_up g.L.RunNow.sets_up) owned c.told_memory.result (here c.setup.new.self c.setup.new.world) in
    record {
      sets_up = subst P c.self.view_is (subst (λ place. P (owned_in place)) (sym c.in-Here.is) (record {
        accepted = is_ok c.setup.result;
        left = c.setup.new.self;
        world = c.setup.new.world;
        runs = c.setup.ensures;
        told = c.told_memory.ensures;
        at_hand = refl;
      }));
    }
