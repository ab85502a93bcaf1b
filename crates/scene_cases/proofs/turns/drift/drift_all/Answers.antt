use Rattle.std.proofs.Common.{ap}
use Rattle.shred_world.specs.Bundles.{takable}
use Rattle.shred_stages.proofs.CallerLemmas.{leaves-same, leaves-one}
use Rattle.scene_cases.specs.Drifts.{position_id}
use Rattle.scene_cases.specs.declared.turns.values.Value.TheVariants.{PositionValue}
use Rattle.scene_cases.proofs.DriftLemmas.{velocities-are-there, put-back}
use Rattle.scene_cases.proofs.turns.drift.drift_all.Goals as goal

pub returns-in_default-clause-leaves : goal.returns-in_default-clause-leaves
returns-in_default-clause-leaves g c = leaves-same _ _ c.in_default.ensures.err

pub returns-in-Ok-outcome-clause-moves : goal.returns-in-Ok-outcome-clause-moves
returns-in-Ok-outcome-clause-moves g c =
    let seen = g.H.Holder.slots c.args.holder.now in
    let after = c.change_each-outcome.new.storage in
    record {
      positions = c.in-Ok.positions.value;
      velocities = c.get.result.now;
      after = after;
      written = c.in-Ok.ensures.fits.1;
      read = velocities-are-there seen (g.H.Holder.slots c.fetch.new.holder) c.get.result.now c.in-Ok.ensures.ok c.get.ensures;
      changed = c.in-Ok-outcome.ensures.ok;
      shown = c.in-Ok-outcome.ensures.shows;
      others = put-back seen (g.H.Holder.slots c.fetch.new.holder) (g.H.Holder.slots c.give_back.new.holder) (PositionValue after) c.in-Ok.ensures.ok c.give_back.ensures;
    }

pub returns-in-Ok-outcome-clause-leaves : goal.returns-in-Ok-outcome-clause-leaves
returns-in-Ok-outcome-clause-leaves g c =
    leaves-one _ _ _ position_id (PositionValue c.in-Ok.positions.value) (PositionValue c.change_each-outcome.new.storage) (ap takable c.in-Ok.ensures.fits.1) c.in-Ok.ensures.ok c.give_back.ensures

pub returns-in-Err-clause-leaves : goal.returns-in-Err-clause-leaves
returns-in-Err-clause-leaves g c =
    leaves-one _ _ _ position_id (PositionValue c.in-Ok.positions.value) (PositionValue c.change_each-outcome.new.storage) (ap takable c.in-Ok.ensures.fits.1) c.in-Ok.ensures.ok c.give_back.ensures
