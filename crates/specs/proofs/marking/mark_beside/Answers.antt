use Rattle.std.proofs.Common.{inr}
use Rattle.shred_world.specs.ResourceIds.{id_of}
use Rattle.specs_world.specs.Resources.{place}
use Rattle.specs_world.proofs.ResourceLemmas.{lent-becomes}
use Rattle.specs.proofs.SlotLemmas.{becomes-out}
use Rattle.specs.proofs.marking.mark_beside.Goals as goal

pub returns-in-Ok-Some-clause-ok : goal.returns-in-Ok-Some-clause-ok
returns-in-Ok-Some-clause-ok g c =
    lent-becomes g.bound-7.part g.bound-7.wrapped c.args.world.now _ (id_of g.bound-7.kind_number 0) c.get_mut.result c.in-Some.storage c.mark.new.storage c.in-Some.is c.get_mut.ensures.value (c.get_mut.follows.holds c.mark.new.storage) _
    (rw c.in-Ok-Some.field-0-is at c.in-Ok-Some.ensures.ok).marks

pub returns-in-Ok-Some-clause-outs : goal.returns-in-Ok-Some-clause-outs
returns-in-Ok-Some-clause-outs g c =
    becomes-out (place g.bound-7.part g.bound-7.wrapped g.bound-7.kind_number) (λ was now. Unit {0}) c.args.world.now _
    (lent-becomes g.bound-7.part g.bound-7.wrapped c.args.world.now _ (id_of g.bound-7.kind_number 0) c.get_mut.result c.in-Some.storage c.mark.new.storage c.in-Some.is c.get_mut.ensures.value (c.get_mut.follows.holds c.mark.new.storage) (λ was now. Unit {0}) tt)

pub returns-in-Ok-None-clause-ok : goal.returns-in-Ok-None-clause-ok
returns-in-Ok-None-clause-ok g c =
    lent-becomes g.bound-7.part g.bound-7.wrapped c.args.world.now _ (id_of g.bound-7.kind_number 0) c.get_mut.result c.in-Some.storage c.mark.new.storage c.in-Some.is c.get_mut.ensures.value (c.get_mut.follows.holds c.mark.new.storage) _
    (rw c.in-Ok-None.field-0-is at c.in-Ok-None.ensures.ok).marks

pub returns-in-Ok-None-clause-outs : goal.returns-in-Ok-None-clause-outs
returns-in-Ok-None-clause-outs g c =
    becomes-out (place g.bound-7.part g.bound-7.wrapped g.bound-7.kind_number) (λ was now. Unit {0}) c.args.world.now _
    (lent-becomes g.bound-7.part g.bound-7.wrapped c.args.world.now _ (id_of g.bound-7.kind_number 0) c.get_mut.result c.in-Some.storage c.mark.new.storage c.in-Some.is c.get_mut.ensures.value (c.get_mut.follows.holds c.mark.new.storage) (λ was now. Unit {0}) tt)

pub returns-in-Some-clause-refused : goal.returns-in-Some-clause-refused
returns-in-Some-clause-refused g c =
    inr (lent-becomes g.bound-7.part g.bound-7.wrapped c.args.world.now _ (id_of g.bound-7.kind_number 0) c.get_mut.result c.in-Some.storage c.mark.new.storage c.in-Some.is c.get_mut.ensures.value (c.get_mut.follows.holds c.mark.new.storage) _
    (c.in-Err.ensures.alive, c.in-Err.ensures.refused, c.in-Err.ensures.untold))

pub returns-in-Some-clause-outs : goal.returns-in-Some-clause-outs
returns-in-Some-clause-outs g c =
    becomes-out (place g.bound-7.part g.bound-7.wrapped g.bound-7.kind_number) (λ was now. Unit {0}) c.args.world.now _
    (lent-becomes g.bound-7.part g.bound-7.wrapped c.args.world.now _ (id_of g.bound-7.kind_number 0) c.get_mut.result c.in-Some.storage c.mark.new.storage c.in-Some.is c.get_mut.ensures.value (c.get_mut.follows.holds c.mark.new.storage) (λ was now. Unit {0}) tt)
