use Rattle.std.proofs.Common.{ap, ◌∙◌}
use Rattle.shred_world.specs.Bundles.{holding_of}
use Rattle.shred_stages.proofs.CallerLemmas.{turn-seat, turn-step}
use Rattle.shred.proofs.trees.leaf.run_seated.Goals as goal

pub returns-clause-step : goal.returns-clause-step
returns-clause-step g c =
    turn-step g.S.System.meets c.args.reads.now c.args.writes.now (g.W.Holder.slots c.args.world.now) c.args.seat.now (g.W.Holder.slots c.move_values.new.from) c.replace-lent.result c.run_over-outcome.result.1
    (g.W.Holder.slots c.move_values-2.new.to) c.move_values-2.new.from
    c.args.system.now _ c.run_over-outcome.new.system c.requires.seat c.move_values.ensures.from (λ q. ap (λ m. holding_of m q) c.replace-lent.ensures.value ∙ c.move_values.ensures.to q) c.run_over-outcome.ensures.runs
    c.move_values-2.ensures.from c.move_values-2.ensures.to

pub returns-clause-seat : goal.returns-clause-seat
returns-clause-seat g c =
    turn-seat g.S.System.meets c.args.reads.now c.args.writes.now (g.W.Holder.slots c.args.world.now) c.args.seat.now (g.W.Holder.slots c.move_values.new.from) c.replace-lent.result c.run_over-outcome.result.1
    (g.W.Holder.slots c.move_values-2.new.to) c.move_values-2.new.from
    c.args.system.now _ c.run_over-outcome.new.system c.requires.seat c.move_values.ensures.from (λ q. ap (λ m. holding_of m q) c.replace-lent.ensures.value ∙ c.move_values.ensures.to q) c.run_over-outcome.ensures.runs
    c.move_values-2.ensures.from c.move_values-2.ensures.to
