use Rattle.specs_world.specs.Resources.{place}
use Rattle.specs_world.proofs.QueueLemmas.{none-waiting, none-up-to, below-all}
use Rattle.specs_world.proofs.queues.first_number.Goals as goal

pub returns-then-number-clause-none : goal.returns-then-number-clause-none
returns-then-number-clause-none g c =
    let at = place g.bound-1.part g.bound-1.wrapped g.bound-1.kind_number in
    let here = none-waiting at c.args.world.now _ _ c.has_job.ensures.1 c.if-has_job.false in
    below-all at c.args.world.now c.in-Some.number c.if-number.true
    (none-up-to at c.args.world.now _ _ _ c.in-Some.number c.kind-kind.ensures c.least_id.ensures c.in-Some.is c.loop-number.invariant here)

pub loop-number-preserved : goal.loop-number-preserved
loop-number-preserved g c =
    let at = place g.bound-1.part g.bound-1.wrapped g.bound-1.kind_number in
    let here = none-waiting at c.args.world.now _ _ c.has_job.ensures.1 c.if-has_job.false in
    none-up-to at c.args.world.now _ _ _ c.in-Some.number c.kind-kind.ensures c.least_id.ensures c.in-Some.is c.loop-number.invariant here
