use Rattle.std.proofs.Common.{ap, ◌∙◌, subst}
use Rattle.shred_world.specs.declared.resource_id.ResourceId.{ResourceId}
use Rattle.shred_world.specs.Bundles.{Holding, owned, takable, with_slot}
use Rattle.shred_stages.proofs.CallerLemmas.{leaves-one}
use Rattle.specs_join.specs.ChangeEach.{AreChanged, IsRefused}
use Rattle.specs_join.specs.EachErrors.{OnRefused}
use Rattle.scene_basics.specs.declared.values.Value.{Value}
use Rattle.scene_basics.specs.declared.values.Value.TheVariants.{NumbersValue}
use Rattle.scene_basics.specs.Values.{whole_at}
use Rattle.scene_basics.specs.Columns.{part_id}
use Rattle.scene_basics.specs.Adding.{gained, addend}
use Rattle.scene_basics.proofs.AddLemmas.{came-ok, came-err, put-back, stops-adding}
use Rattle.scene_basics.proofs.adding.add_to.Goals as goal

pub returns-in-Ok-clause-ends : goal.returns-in-Ok-clause-ends
returns-in-Ok-clause-ends g c =
    let seen = g.W.Holder.slots c.args.view.now in
    let id : ResourceId = part_id c.args.kind.now in
    let before = c.in-Some.numbers in
    let after = c.add_gain-numbers.result.0 in
    record {
      before = before;
      after = after;
      writes = record {
        written = c.in-Some.ensures.there;
        others = c.put.ensures ∙ ap (λ at. with_slot (g.W.Holder.slots c.take_numbers.new.view) at (owned (NumbersValue after))) c.part_id.ensures
            ∙ ap (λ w. with_slot w id (owned (NumbersValue after))) c.in-Some.ensures.taken ∙ put-back seen id (NumbersValue after);
      };
      changed = subst (λ (w : Holding Value). AreChanged gained (whole_at before) (addend c.args.gain w) (whole_at after)) c.in-Some.ensures.taken
          (came-ok (AreChanged gained (whole_at before) (addend c.args.gain (g.W.Holder.slots c.take_numbers.new.view)) (whole_at after)) c.add_gain-numbers.result.1 c.in-Ok.field-0 c.in-Ok.is c.add_gain-numbers.ensures.ok);
      shown = c.add_gain-numbers.ensures.shown;
    }

pub returns-in-Err-clause-ends : goal.returns-in-Err-clause-ends
returns-in-Err-clause-ends g c =
    let seen = g.W.Holder.slots c.args.view.now in
    let id : ResourceId = part_id c.args.kind.now in
    let before = c.in-Some.numbers in
    let after = c.add_gain-numbers.result.0 in
    stops-adding c.args.kind.now c.args.gain seen (g.W.Holder.slots c.put.new.self) before after c.stop_for.result c.in-Err.error
    (record {
      written = c.in-Some.ensures.there;
      others = c.put.ensures ∙ ap (λ at. with_slot (g.W.Holder.slots c.take_numbers.new.view) at (owned (NumbersValue after))) c.part_id.ensures
          ∙ ap (λ w. with_slot w id (owned (NumbersValue after))) c.in-Some.ensures.taken ∙ put-back seen id (NumbersValue after);
    })
    (subst (λ (w : Holding Value). OnRefused (IsRefused gained (whole_at before) (addend c.args.gain w)) c.in-Err.error) c.in-Some.ensures.taken
    (came-err (OnRefused (IsRefused gained (whole_at before) (addend c.args.gain (g.W.Holder.slots c.take_numbers.new.view)))) c.add_gain-numbers.result.1 c.in-Err.error c.in-Err.is c.add_gain-numbers.ensures.refused))
    c.stop_for.ensures

pub returns-in-Err-clause-leaves : goal.returns-in-Err-clause-leaves
returns-in-Err-clause-leaves g c =
    leaves-one _ _ _ (part_id c.args.kind.now) (NumbersValue c.in-Some.numbers) (NumbersValue c.add_gain-numbers.result.0) (ap takable c.in-Some.ensures.there) c.in-Some.ensures.taken
    (c.put.ensures ∙ ap (λ at. with_slot (g.W.Holder.slots c.take_numbers.new.view) at (owned (NumbersValue c.add_gain-numbers.result.0))) c.part_id.ensures)
