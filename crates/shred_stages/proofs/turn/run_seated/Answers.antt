use Rattle.shred_stages.proofs.ViewLemmas.{turn-seat, turn-slots, turn-step}
use Rattle.shred_stages.proofs.turn.run_seated.Goals as goal

pub move_values-requires-2 : goal.move_values-requires-2
move_values-requires-2 g c = record {
  slots = turn-slots g.S.System.meets c.args.reads.now c.args.writes.now (g.W.Holder.slots c.args.world.now) c.args.seat (g.W.Holder.slots c.move_values.new.from) c.move_values.new.to c.run_in_view-outcome.result.1
      (g.W.Holder.slots c.move_values.new.from) c.run_in_view-outcome.result.1
      c.args.system.now _ c.run_in_view-outcome.new.system c.requires.seat c.move_values.ensures.from c.move_values.ensures.to c.run_in_view-outcome.ensures;
}

pub returns-clause-step : goal.returns-clause-step
returns-clause-step g c =
    turn-step g.S.System.meets c.args.reads.now c.args.writes.now (g.W.Holder.slots c.args.world.now) c.args.seat (g.W.Holder.slots c.move_values.new.from) c.move_values.new.to c.run_in_view-outcome.result.1
    (g.W.Holder.slots c.move_values-2.new.to) c.move_values-2.new.from
    c.args.system.now _ c.run_in_view-outcome.new.system c.requires.seat c.move_values.ensures.from c.move_values.ensures.to c.run_in_view-outcome.ensures
    c.move_values-2.ensures.from c.move_values-2.ensures.to

pub returns-clause-seat : goal.returns-clause-seat
returns-clause-seat g c =
    turn-seat g.S.System.meets c.args.reads.now c.args.writes.now (g.W.Holder.slots c.args.world.now) c.args.seat (g.W.Holder.slots c.move_values.new.from) c.move_values.new.to c.run_in_view-outcome.result.1
    (g.W.Holder.slots c.move_values-2.new.to) c.move_values-2.new.from
    c.args.system.now _ c.run_in_view-outcome.new.system c.requires.seat c.move_values.ensures.from c.move_values.ensures.to c.run_in_view-outcome.ensures
    c.move_values-2.ensures.from c.move_values-2.ensures.to
