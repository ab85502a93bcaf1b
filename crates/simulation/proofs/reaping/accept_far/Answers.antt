use Rattle.std.proofs.Common.{◌∷◌, ap, sym, ◌∙◌, subst}
use Rattle.specs.specs.ForStorages.{SetWithRoom, has_member, left_of, walk}
use Rattle.simulation.specs.Steps.{position_at}
use Rattle.simulation.proofs.ReapingLemmas.{Accepting, accepting-start, accepting-next, accepting-end}
use Rattle.simulation.proofs.reaping.accept_far.Goals as goal

pub loop-id-init : goal.loop-id-init
loop-id-init c =
    let before = c.args.entities.now in
    subst (Accepting (position_at c.args.positions.now) before before)
    (sym (ap (left_of (λ s. has_member s.now)) c.into_iter-id-iterator.ensures.into_iter_gives ∙ (c.iter-id-items.ensures.items ∙ ap (λ (m : SetWithRoom). walk (has_member m)) c.mask.ensures.value)))
    (accepting-start (position_at c.args.positions.now) before (has_member c.args.positions.now.mask) c.mask.ensures.agrees c.mask.ensures.range)

pub loop-id-preserved : goal.loop-id-preserved
loop-id-preserved c =
    let before = c.args.entities.now in
    accepting-next (position_at c.args.positions.now) before c.loop-id.entities c.accept_at.new.entities c.in-Some.id _
    (subst (Accepting (position_at c.args.positions.now) before c.loop-id.entities) c.in-Some.ensures.steps c.loop-id.invariant) c.accept_at.ensures
