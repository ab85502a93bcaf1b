use Rattle.std.proofs.Common.{◌≡◌, Some, refl, sym, ap, ◌∙◌}
use Rattle.std.proofs.lemmas.Result.{IfErr-weaker}
use Rattle.shred_world.specs.ResourceIds.{id_of}
use Rattle.shred_world.specs.Worlds.{resource_at}
use Rattle.specs_entity.specs.Closures.{RefusesClosure}
use Rattle.specs_world.specs.Resources.{place}
use Rattle.specs_world.proofs.DeletingLemmas.{is-left-out, rests-around, deletes-around, refused-around, if_ok_both, on_err_both}
use Rattle.specs_world.proofs.ResourceLemmas.{resource-value}
use Rattle.specs_world.proofs.world_ext.WorldWorldExt.delete_closure.Goals as goal

pub put_in-requires : goal.put_in-requires
put_in-requires g c =
    record {
      is_out =
          is-left-out g.V.AnyStorage.drops c.args.self.now c.take_out.new.world c.close_registered-result.new.world _ (id_of g.bound-2.kind_number 0) (g.bound-2.wrapped c.in-Some.births)
          c.in-Some.ensures.out refl c.close_registered-result.ensures.outs;
    }

pub returns-clause-ok : goal.returns-clause-ok
returns-clause-ok g c =
    let id = id_of g.bound-2.kind_number 0 in
    let there : resource_at g.bound-2.part c.args.self.now id ≡ Some c.in-Some.births = sym c.take_out.ensures.value ∙ c.in-Some.is in
    if_ok_both c.close_registered-result.result
    (λ entities closure kills. record {
      births = c.in-Some.births;
      alive_in = there;
      closure = closure;
      deletes = deletes-around g.V.AnyStorage.drops c.args.self.now c.take_out.new.world c.close_registered-result.new.world c.put_in.new.world id (g.bound-2.wrapped c.close_registered-result.new.births)
          c.in-Some.ensures.out c.put_in.ensures g.bound-2.part g.bound-2.wrapped (place g.bound-3.part g.bound-3.wrapped g.bound-3.kind_number) entities.items c.in-Some.births
          c.close_registered-result.new.births there refl kills;
    })
    c.close_registered-result.ensures.closure c.close_registered-result.ensures.ok

pub returns-clause-rests : goal.returns-clause-rests
returns-clause-rests g c =
    let id = id_of g.bound-2.kind_number 0 in
    let there : resource_at g.bound-2.part c.args.self.now id ≡ Some c.in-Some.births = sym c.take_out.ensures.value ∙ c.in-Some.is in
    on_err_both c.close_registered-result.result
    (λ same rests.
    rests-around g.V.AnyStorage.drops c.args.self.now c.take_out.new.world c.close_registered-result.new.world c.put_in.new.world id (g.bound-2.wrapped c.close_registered-result.new.births)
    c.in-Some.ensures.out c.put_in.ensures g.met.V.AnyStorage.drops_none
    (resource-value g.bound-2.part g.bound-2.wrapped g.bound-2-met.only_wrapped c.args.self.now id c.in-Some.births there ∙ ap (λ births. Some (g.bound-2.wrapped births)) (sym same)) rests)
    c.close_registered-result.ensures.same c.close_registered-result.ensures.rests

pub returns-clause-refused : goal.returns-clause-refused
returns-clause-refused g c =
    let id = id_of g.bound-2.kind_number 0 in
    let there : resource_at g.bound-2.part c.args.self.now id ≡ Some c.in-Some.births = sym c.take_out.ensures.value ∙ c.in-Some.is in
    IfErr-weaker c.close_registered-result.result _ _
    (λ error.
    refused-around g.V.AnyStorage.drops c.args.self.now c.take_out.new.world c.close_registered-result.new.world c.put_in.new.world id (g.bound-2.wrapped c.close_registered-result.new.births)
    c.in-Some.ensures.out c.put_in.ensures g.bound-2.part g.bound-3.part (id_of g.bound-3.kind_number 0) (λ births. RefusesClosure births c.args.roots.now) c.in-Some.births error there)
    c.close_registered-result.ensures.refused
