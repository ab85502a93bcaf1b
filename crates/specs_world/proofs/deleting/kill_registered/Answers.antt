use Rattle.std.proofs.Common.{◌≡◌, Some, refl, sym, ◌∙◌, subst}
use Rattle.std.proofs.lemmas.Result.{on_err_weaker}
use Rattle.shred_world.specs.ResourceIds.{id_of}
use Rattle.shred_world.specs.Worlds.{resource_at}
use Rattle.specs_layouts.specs.Drops.{ids_of}
use Rattle.specs_world.specs.Dropping.{DropsIn}
use Rattle.specs_world.proofs.DeletingLemmas.{is-left-out, rests-around, out-around, drops-around, on_ok_all}
use Rattle.specs_world.proofs.ResourceLemmas.{resource-value}
use Rattle.specs_world.proofs.deleting.kill_registered.Goals as goal

pub put_in-requires : goal.put_in-requires
put_in-requires g c =
    record {
      is_out =
          is-left-out g.V.AnyStorage.drops c.args.world.now c.take_out.new.world c.kill_with_parts-result.new.world _ (id_of g.bound-2.kind_number 0) (g.bound-2.wrapped c.in-Some.table)
          c.in-Some.ensures.out refl c.kill_with_parts-result.ensures.outs;
    }

pub returns-clause-ok : goal.returns-clause-ok
returns-clause-ok g c =
    let id = id_of g.bound-2.kind_number 0 in
    let there : resource_at g.bound-2.part c.args.world.now id ≡ Some c.in-Some.table = sym c.take_out.ensures.value ∙ c.in-Some.is in
    on_ok_all c.kill_with_parts-result.result
    (λ buried killable lives continues dropped.
    record {
      killable = killable;
      buried = buried;
      lives = lives;
      continues = continues;
      dropped =
          drops-around g.V.AnyStorage.drops c.args.world.now c.take_out.new.world c.kill_with_parts-result.new.world c.put_in.new.world id (g.bound-2.wrapped c.in-Some.table)
          c.in-Some.ensures.out c.put_in.ensures g.bound-2.part g.bound-2.wrapped g.bound-2-met.only_wrapped c.args.entities.now c.in-Some.table there refl
          (subst (λ kinds. DropsIn g.V.AnyStorage.drops kinds (ids_of c.args.entities.now) c.take_out.new.world c.kill_with_parts-result.new.world) c.iter_mut.ensures.kinds dropped);
    })
    c.kill_with_parts-result.ensures.births c.kill_with_parts-result.ensures.killable c.kill_with_parts-result.ensures.lives c.kill_with_parts-result.ensures.continues
    c.kill_with_parts-result.ensures.parts

pub returns-clause-rests : goal.returns-clause-rests
returns-clause-rests g c =
    let id = id_of g.bound-2.kind_number 0 in
    let there : resource_at g.bound-2.part c.args.world.now id ≡ Some c.in-Some.table = sym c.take_out.ensures.value ∙ c.in-Some.is in
    on_err_weaker c.kill_with_parts-result.result
    (rests-around g.V.AnyStorage.drops c.args.world.now c.take_out.new.world c.kill_with_parts-result.new.world c.put_in.new.world id (g.bound-2.wrapped c.in-Some.table)
    c.in-Some.ensures.out c.put_in.ensures g.met.V.AnyStorage.drops_none (resource-value g.bound-2.part g.bound-2.wrapped g.bound-2-met.only_wrapped c.args.world.now id c.in-Some.table there))
    c.kill_with_parts-result.ensures.rests

pub returns-clause-outs : goal.returns-clause-outs
returns-clause-outs g c =
    let id = id_of g.bound-2.kind_number 0 in
    let there : resource_at g.bound-2.part c.args.world.now id ≡ Some c.in-Some.table = sym c.take_out.ensures.value ∙ c.in-Some.is in
    out-around g.V.AnyStorage.drops c.args.world.now c.take_out.new.world c.kill_with_parts-result.new.world c.put_in.new.world id (g.bound-2.wrapped c.in-Some.table)
    c.in-Some.ensures.out c.put_in.ensures (resource-value g.bound-2.part g.bound-2.wrapped g.bound-2-met.only_wrapped c.args.world.now id c.in-Some.table there) c.kill_with_parts-result.ensures.outs
