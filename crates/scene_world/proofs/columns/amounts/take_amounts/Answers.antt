use Rattle.std.proofs.Common.{sym, subst}
use Rattle.std.proofs.lemmas.Result.{on_ok_weaker}
use Rattle.shred_world.specs.declared.resource_id.ResourceId.{ResourceId}
use Rattle.shred_stages.proofs.CallerLemmas.{leaves-one}
use Rattle.scene_world.specs.Columns.{column_in, events_in, emits_in, storing_by}
use Rattle.scene_world.specs.Held.{Changes, LessBy}
use Rattle.scene_world.proofs.HeldLemmas.{taken-read, sets-one}
use Rattle.scene_world.proofs.columns.amounts.take_amounts.Goals as goal

pub returns-clause-taken : goal.returns-clause-taken
returns-clause-taken g c =
    on_ok_weaker c.take_each-outcome.result
    (λ becomes. subst (λ (id : ResourceId). Changes id
    (LessBy (column_in g.bound-8.part (storing_by g.T.Storage.UnprotectedStorage.part_at g.T.PlainPart.stored))
    (events_in g.bound-8.part (λ parts. g.T.Storage.UnprotectedStorage.events parts.inner)) (emits_in g.bound-8.part (λ parts. g.T.Storage.UnprotectedStorage.emits parts.inner)) c.args.amounts.now)
    (g.W.Holder.slots c.args.view.now) (g.W.Holder.slots c.put.new.self)) c.new-id.ensures (record {
      before = c.in-Some.value;
      after = c.take_each-outcome.new.value;
      there = taken-read (g.W.Holder.slots c.args.view.now c.new-id.result) c.in-Some.value (sym c.in-Some.ensures.value);
      sets = sets-one _ _ _ c.new-id.result c.take_each-outcome.new.value c.in-Some.ensures.ok c.put.ensures;
      changed = becomes;
    })) c.take_each-outcome.ensures

pub returns-clause-leaves : goal.returns-clause-leaves
returns-clause-leaves g c = leaves-one _ _ _ c.new-id.result c.in-Some.value c.take_each-outcome.new.value (sym c.in-Some.ensures.value) c.in-Some.ensures.ok c.put.ensures
