use Rattle.std.proofs.Common.{ap, ◌∙◌}
use Rattle.shred_world.specs.Bundles.{with_slot, owned, out}
use Rattle.shred_world.proofs.BundleLemmas.{with_slot-with_slot}
use Rattle.world_cases.specs.Tiring.{health_id}
use Rattle.world_cases.specs.declared.values.Value.TheVariants.{HealthValue}
use Rattle.world_cases.proofs.ValueLemmas.{speeds-are-there}
use Rattle.world_cases.proofs.tiring.tire.Goals as goal

pub returns-in-Ok-outcome-clause-tires : goal.returns-in-Ok-outcome-clause-tires
returns-in-Ok-outcome-clause-tires g c =
    let seen = g.H.Holder.slots c.args.holder.now in
    let after = c.change_each-outcome.new.storage in
    record {
      healths = c.in-Ok.healths.parts.value;
      speeds = c.get.result.now;
      after = after;
      written = c.in-Ok.ensures.fits.1;
      read = speeds-are-there seen (g.H.Holder.slots c.fetch.new.holder) c.get.result.now c.in-Ok.ensures.ok c.get.ensures;
      parts = c.in-Ok-outcome.ensures.ok;
      others =
          c.give_back.ensures ∙ ap (λ w. with_slot w health_id (owned (HealthValue after))) c.in-Ok.ensures.ok
          ∙ with_slot-with_slot seen health_id out (owned (HealthValue after));
    }
