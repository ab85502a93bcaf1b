use Rattle.std.proofs.Common.{◌≡◌}
use Rattle.shred_world.specs.ResourceIds.{id_of}
use Rattle.shred_world.specs.Worlds.{with_kind}
use Rattle.specs_world.proofs.ResourceLemmas.{lent-becomes, lent-same}
use Rattle.specs_world.proofs.registering.enter.Goals as goal

pub returns-in-Ok-clause-ok : goal.returns-in-Ok-clause-ok
returns-in-Ok-clause-ok g c =
    lent-becomes g.bound-2.part g.bound-2.wrapped c.args.world.now _ (id_of g.bound-2.kind_number 0) c.get_mut.result c.in-Some.table c.register.new.self c.in-Some.is c.get_mut.ensures.value
    (c.get_mut.follows.holds c.register.new.self) (λ was now. now ≡ with_kind was g.R.Resource.kind_number) c.in-Ok.ensures.ok

pub returns-in-Err-clause-err : goal.returns-in-Err-clause-err
returns-in-Err-clause-err g c =
    lent-same g.bound-2.part g.bound-2.wrapped c.args.world.now _ (id_of g.bound-2.kind_number 0) c.get_mut.result c.in-Some.table c.register.new.self c.in-Some.is c.get_mut.ensures.value
    (c.get_mut.follows.holds c.register.new.self) g.bound-2-met.only_wrapped c.in-Err.ensures.err
