use Rattle.std.proofs.Common.{rules}
use Rattle.shred_stages.specs.Views.{error_of, view_slots}
use Rattle.shred.proofs.HalfLemmas.{ran-in-view}
use Rattle.shred.proofs.trees.halves.run_over.Goals as goal

pub returns-clause-runs : goal.returns-clause-runs
returns-clause-runs g c =
    let last = c.run-outcome.new.world in
    let view = c.over-view.result in
    ran-in-view g.T.RunWithPool.meets c.args.tree.now (error_of c.run-outcome.result) c.run-outcome.new.self
    (view_slots view.reads.now view.writes.now (g.W.Holder.slots view.world.now) view.seat) (view_slots c.args.reads.now c.args.writes.now (g.W.Holder.slots c.args.world.now) c.args.seat)
    last.reads.now last.writes.now (g.W.Holder.slots last.world.now) last.seat c.into_seat.result
    (search rules) c.into_seat.ensures last.seated c.run-outcome.ensures.meets
    (g.met.T.RunWithPool.stays_within _ _ _ _ _ c.run-outcome.ensures.meets).leaves
