use Rattle.std.proofs.Common.{◌≡◌, refl, ap, ◌∙◌}
use Rattle.specs.specs.ForWorlds.{with_slot, owned, out}
use Rattle.specs.proofs.CallerLemmas.{with_slot-with_slot}
use Rattle.simulation.specs.Steps.{position_id}
use Rattle.simulation.specs.declared.values.Value.TheVariants.{PositionValue}
use Rattle.simulation.proofs.ValueLemmas.{velocities-are-there}
use Rattle.simulation.proofs.movement.move_all.Goals as goal

pub returns-in-Ok-outcome-clause-moves : goal.returns-in-Ok-outcome-clause-moves
returns-in-Ok-outcome-clause-moves g c =
    let seen = g.H.Holder.slots c.args.holder.now in
    let after = c.change_each-outcome.new.storage in
    record {
      positions = c.in-Ok.positions.parts.value;
      velocities = c.get.result.now;
      after = after;
      written = c.in-Ok.ensures.fits.1;
      read = velocities-are-there seen (g.H.Holder.slots c.fetch.new.holder) c.get.result.now c.in-Ok.ensures.ok c.get.ensures;
      parts = c.in-Ok-outcome.ensures.ok;
      others =
          c.give_back.ensures ∙ ap (λ w. with_slot w position_id (owned (PositionValue after))) c.in-Ok.ensures.ok
          ∙ with_slot-with_slot seen position_id out (owned (PositionValue after));
    }
