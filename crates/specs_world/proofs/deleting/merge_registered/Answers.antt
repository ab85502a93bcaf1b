use Rattle.std.proofs.Common.{◌≡◌, Some, refl, sym, ◌∙◌, subst}
use Rattle.shred_world.specs.ResourceIds.{id_of}
use Rattle.shred_world.specs.Worlds.{resource_at}
use Rattle.specs_layouts.specs.Drops.{ids_of}
use Rattle.specs_world.specs.Dropping.{DropsIn}
use Rattle.specs_world.proofs.DeletingLemmas.{is-left-out, rests-around, out-around, drops-around}
use Rattle.specs_world.proofs.ResourceLemmas.{resource-value}
use Rattle.specs_world.proofs.deleting.merge_registered.Goals as goal

pub put_in-requires : goal.put_in-requires
put_in-requires g c =
    record {
      is_out =
          is-left-out g.V.AnyStorage.drops c.args.world.now c.take_out.new.world c.merge_with_parts-result.new.world _ (id_of g.bound-2.kind_number 0) (g.bound-2.wrapped c.in-Some.table)
          c.in-Some.ensures.out refl c.merge_with_parts-result.ensures.outs;
    }

pub returns-in-Ok-clause-parts : goal.returns-in-Ok-clause-parts
returns-in-Ok-clause-parts g c =
    let id = id_of g.bound-2.kind_number 0 in
    let there : resource_at g.bound-2.part c.args.world.now id ≡ Some c.in-Some.table = sym c.take_out.ensures.value ∙ c.in-Some.is in
    drops-around g.V.AnyStorage.drops c.args.world.now c.take_out.new.world c.merge_with_parts-result.new.world c.put_in.new.world id (g.bound-2.wrapped c.in-Some.table)
    c.in-Some.ensures.out c.put_in.ensures g.bound-2.part g.bound-2.wrapped g.bound-2-met.only_wrapped c.in-Ok.deleted.items c.in-Some.table there refl
    (subst (λ kinds. DropsIn g.V.AnyStorage.drops kinds (ids_of c.in-Ok.deleted.items) c.take_out.new.world c.merge_with_parts-result.new.world) c.iter_mut.ensures.kinds c.in-Ok.ensures.parts)

pub returns-in-Ok-clause-outs : goal.returns-in-Ok-clause-outs
returns-in-Ok-clause-outs g c =
    let id = id_of g.bound-2.kind_number 0 in
    let there : resource_at g.bound-2.part c.args.world.now id ≡ Some c.in-Some.table = sym c.take_out.ensures.value ∙ c.in-Some.is in
    out-around g.V.AnyStorage.drops c.args.world.now c.take_out.new.world c.merge_with_parts-result.new.world c.put_in.new.world id (g.bound-2.wrapped c.in-Some.table)
    c.in-Some.ensures.out c.put_in.ensures (resource-value g.bound-2.part g.bound-2.wrapped g.bound-2-met.only_wrapped c.args.world.now id c.in-Some.table there) c.merge_with_parts-result.ensures.outs

pub returns-in-Err-clause-rests : goal.returns-in-Err-clause-rests
returns-in-Err-clause-rests g c =
    let id = id_of g.bound-2.kind_number 0 in
    let there : resource_at g.bound-2.part c.args.world.now id ≡ Some c.in-Some.table = sym c.take_out.ensures.value ∙ c.in-Some.is in
    rests-around g.V.AnyStorage.drops c.args.world.now c.take_out.new.world c.merge_with_parts-result.new.world c.put_in.new.world id (g.bound-2.wrapped c.in-Some.table)
    c.in-Some.ensures.out c.put_in.ensures g.met.V.AnyStorage.drops_none (resource-value g.bound-2.part g.bound-2.wrapped g.bound-2-met.only_wrapped c.args.world.now id c.in-Some.table there) c.in-Err.ensures.rests

pub returns-in-Err-clause-outs : goal.returns-in-Err-clause-outs
returns-in-Err-clause-outs g c =
    let id = id_of g.bound-2.kind_number 0 in
    let there : resource_at g.bound-2.part c.args.world.now id ≡ Some c.in-Some.table = sym c.take_out.ensures.value ∙ c.in-Some.is in
    out-around g.V.AnyStorage.drops c.args.world.now c.take_out.new.world c.merge_with_parts-result.new.world c.put_in.new.world id (g.bound-2.wrapped c.in-Some.table)
    c.in-Some.ensures.out c.put_in.ensures (resource-value g.bound-2.part g.bound-2.wrapped g.bound-2-met.only_wrapped c.args.world.now id c.in-Some.table there) c.merge_with_parts-result.ensures.outs
