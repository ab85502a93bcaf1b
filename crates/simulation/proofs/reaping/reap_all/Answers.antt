use Rattle.std.proofs.Common.{◌≡◌, refl, ap, ◌∙◌}
use Rattle.specs.specs.ForWorlds.{with_slot, owned, out}
use Rattle.specs.proofs.CallerLemmas.{with_slot-with_slot}
use Rattle.simulation.specs.Steps.{births_id}
use Rattle.simulation.specs.declared.values.Value.TheVariants.{EntitiesValue}
use Rattle.simulation.proofs.ValueLemmas.{positions-are-there}
use Rattle.simulation.proofs.reaping.reap_all.Goals as goal

pub returns-clause-reaps : goal.returns-clause-reaps
returns-clause-reaps g c =
    let seen = g.H.Holder.slots c.args.holder.now in
    let after = c.accept_far.new.entities in
    record {
      births = c.in-Ok.entities.value;
      positions = c.get.result.now;
      after = after;
      written = c.in-Ok.ensures.fits.0;
      read = positions-are-there seen (g.H.Holder.slots c.fetch.new.holder) c.get.result.now c.in-Ok.ensures.ok c.get.ensures;
      accepts = c.accept_far.ensures;
      others =
          c.give_back.ensures ∙ ap (λ w. with_slot w births_id (owned (EntitiesValue after))) c.in-Ok.ensures.ok
          ∙ with_slot-with_slot seen births_id out (owned (EntitiesValue after));
    }
