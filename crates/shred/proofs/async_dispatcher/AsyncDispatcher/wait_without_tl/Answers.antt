use Rattle.std.proofs.Common.{◌≡◌, subst}
use Rattle.shred.specs.declared.async_dispatcher.Place.TheVariants.{Gone}
use Rattle.shred.specs.Asyncs.{Owned, here, Joins}
use Rattle.shred.specs.Places.{owned_in}
use Rattle.shred.proofs.AsyncLemmas.{comes-back}
use Rattle.shred.proofs.async_dispatcher.AsyncDispatcher.wait_without_tl.Goals as goal

pub returns-in-Gone : goal.returns-in-Gone
returns-in-Gone g c =
    let P : Owned g.row.V.Denot g.row.S.Denot g.row.L.Denot → Type 0 = λ owned. Joins g.S.System.meets g.L.RunNow.meets owned c.told.result (here c.of.result c.join-errand.result.errand.world) in
    let is : Gone c.in-Gone.away c.in-Gone.locals ≡ c.self.inside.place = c.in-Gone.ensures.value in
    record {
      joins = subst P c.self.view_is (subst (λ place. P (owned_in place)) is
          (comes-back g.S.System.meets g.L.RunNow.meets c.in-Gone.away c.join-errand.result.errand c.in-Gone.locals.items c.join-errand.result.result c.told.result c.of.result c.of.ensures c.join-errand.ensures c.told.ensures));
    }
