use Rattle.specs_world.specs.Resources.{place}
use Rattle.specs_world.proofs.QueueLemmas.{lent-keeps, lent-takes}
use Rattle.specs_world.proofs.queues.take_under.Goals as goal

pub returns-in-Some-clause-taken : goal.returns-in-Some-clause-taken
returns-in-Some-clause-taken g c =
    lent-takes (place g.bound-1.part g.bound-1.wrapped g.bound-1.kind_number) c.args.world.now _ c.args.number c.new_with_dynamic_id-id.result c.try_fetch_mut_by_id.result c.in-Some.queue c.take_first.new.self
    c.take_first.result c.new_with_dynamic_id-id.ensures c.in-Some.is c.try_fetch_mut_by_id.ensures.value (c.try_fetch_mut_by_id.follows.holds c.take_first.new.self) c.take_first.ensures

pub returns-in-Some-clause-same : goal.returns-in-Some-clause-same
returns-in-Some-clause-same g c =
    lent-keeps (place g.bound-1.part g.bound-1.wrapped g.bound-1.kind_number) c.args.world.now _ c.new_with_dynamic_id-id.result c.try_fetch_mut_by_id.result c.in-Some.queue c.take_first.new.self
    c.take_first.result g.bound-1-met.only_wrapped c.in-Some.is c.try_fetch_mut_by_id.ensures.value (c.try_fetch_mut_by_id.follows.holds c.take_first.new.self) c.take_first.ensures
