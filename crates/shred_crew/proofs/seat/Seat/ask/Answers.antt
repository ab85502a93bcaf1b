use Rattle.std.proofs.Common.{◌≡◌, None, ap, ◌∙◌}
use Rattle.crossbeam_queue.specs.Passes.{view, ruled_capacity}
use Rattle.shred_crew.specs.declared.line.Hand.TheVariants.{Caller}
use Rattle.shred_crew.proofs.LineLemmas.{asks, asks-none}
use Rattle.shred_crew.proofs.seat.Seat.ask.Goals as goal

pub push_as-requires-clause-rule : goal.push_as-requires-clause-rule
push_as-requires-clause-rule g c =
    let does = g.T.Load.does in
    let grip = c.self.inside.grip in
    let idle : view grip ≡ Caller None = c.self.invariant.1 ∙ ap Caller (c.self.view_is ∙ c.requires) in
    (asks does (ruled_capacity c.deref.result.now) grip.id (view grip) c.args.shared c.args.row idle, asks-none does grip.id (view grip) idle)
