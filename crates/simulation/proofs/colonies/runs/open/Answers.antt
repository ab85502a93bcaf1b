use Rattle.std.proofs.Common.{◌≡◌, [], Some, map, sym, ap, ◌∙◌}
use Rattle.specs.specs.ForSeats.{EntityView, called, phase_at, births_at, reserved, SharedPhase}
use Rattle.simulation.specs.declared.colonies.values.Held.TheVariants.{EntitiesHeld}
use Rattle.simulation.proofs.ColonyLemmas.{entities-there, sits-after}
use Rattle.simulation.proofs.colonies.runs.open.Goals as goal

pub returns : goal.returns
returns c =
    let seat = c.in-Ok.seat in
    let opened = c.in-Ok.ensures.ok in
    let split = c.in-Ok-split.ensures in
    let unborn : births_at seat ≡ [] = seat.tied.births ∙ ap (λ (v : EntityView). map (reserved (phase_at seat).key) v.claimer.births) opened.whole in
    record {
      one = c.in-Ok-split.one;
      other = c.in-Ok-split.other;
      were = entities-there c.args.world.now (phase_at seat).key.before opened.entities ∙ ap (λ (p : SharedPhase). Some (EntitiesHeld p.key.before)) (sym split.phase.0);
      sits =
          sits-after c.args.world.now c.open_phase.new.self c.insert_by_id.new.self c.insert_by_id-2.new.self c.in-Ok-split.one c.in-Ok-split.other c.seat_of.result c.seat_of-2.result
          c.seat_of.ensures c.seat_of-2.ensures opened.out c.in-Ok-Ok.ensures.ok c.in-Ok-Ok.ensures'.ok;
      phase = split.phase.1 ∙ sym split.phase.0;
      births = (split.kept.1 ∙ unborn, split.given.1);
      deletions = (
        ap (λ (v : EntityView). map called v.kill.calls) split.kept.0 ∙ ap (λ (v : EntityView). map called v.kill.calls) opened.whole,
        ap (λ (v : EntityView). map called v.kill.calls) split.given.0,
      );
    }
