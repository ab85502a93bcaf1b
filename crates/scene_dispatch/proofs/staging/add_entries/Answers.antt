use Rattle.std.proofs.Common.{◌≡◌, ◌+◌, suc, List, [], ◌∷◌, ◌++◌, length, map, ap, sym, ◌∙◌, subst, arith, length-append}
use Rattle.std.specs.Vec.Iter.{into_iter_items}
use Rattle.std.proofs.lemmas.List.{map-append, length-map}
use Rattle.std.proofs.lemmas.List.Elements.{All-rest}
use Rattle.shred_world.specs.contracts.resource_id.ResourceIdPartialEq.TheImpl.{eq-value}
use Rattle.scene_document.specs.Drafts.{DraftEntry}
use Rattle.scene_document.specs.DraftViews.{plain_draft}
use Rattle.scene_world.specs.Places.{kinds_of}
use Rattle.scene_world.specs.Turns.{placed_as}
use Rattle.scene_dispatch.specs.Staged.{IsFit, HasSystems}
use Rattle.scene_dispatch.proofs.staging.add_entries.Goals as goal

pub overflow_add-place : goal.overflow_add-place
overflow_add-place g c =
    let step : into_iter_items c.loop-entry.entry-iterator ≡ c.in-Some.entry ∷ into_iter_items c.next.new.self = c.in-Some.ensures.steps.0 in
    let long : length (into_iter_items c.loop-entry.entry-iterator) ≡ suc (length (into_iter_items c.next.new.self)) = ap length step in
    let few = c.loop-entry.invariant.few in
    let place = c.loop-entry.invariant.place in
    omega (arith, long, few, place)

pub loop-entry-preserved : goal.loop-entry-preserved
loop-entry-preserved g c =
    let step : into_iter_items c.loop-entry.entry-iterator ≡ c.in-Some.entry ∷ into_iter_items c.next.new.self = c.in-Some.ensures.steps.0 in
    let long : length (into_iter_items c.loop-entry.entry-iterator) ≡ suc (length (into_iter_items c.next.new.self)) = ap length step in
    let done : List DraftEntry = map plain_draft c.loop-entry.yielded in
    let more : length (c.loop-entry.yielded ++ c.in-Some.entry ∷ []) ≡ length c.loop-entry.yielded + 1 = length-append c.loop-entry.yielded (c.in-Some.entry ∷ []) in
    let same : length done ≡ length c.loop-entry.yielded = length-map c.loop-entry.yielded plain_draft in
    let few = c.loop-entry.invariant.few in
    let place = c.loop-entry.invariant.place in
    let next : c.loop-entry.place ≡ suc (length done) = omega (arith, place, same) in
    record {
      place = omega (arith, place, more);
      few = omega (arith, few, long, more);
      fit = All-rest (IsFit (kinds_of g.R.Value.SceneValue.places g.R.DocumentRules.part_of g.R.WorldRules.columns) g.R.DocumentRules.kind_of g.R.DocumentRules.config_of g.R.DocumentRules.declared g.R.DocumentRules.said_time
          (g.R.DocumentRules.made_by c.args.rules.now) (g.R.DocumentRules.book c.args.rules.now)) c.in-Some.entry (into_iter_items c.next.new.self) (into_iter_items c.loop-entry.entry-iterator) step c.loop-entry.invariant.fit;
      has = subst (λ entries. HasSystems (kinds_of g.R.Value.SceneValue.places g.R.DocumentRules.part_of g.R.WorldRules.columns) eq-value.it
          (placed_as (λ placed. placed.position) (λ placed. placed.system) g.R.DocumentRules.kind_of g.R.DocumentRules.config_of g.R.DocumentRules.declared g.R.Rules.sense g.R.Rules.does) (g.R.DocumentRules.book c.args.rules.now) entries c.add_entry.new.builder)
          (sym (map-append plain_draft c.loop-entry.yielded (c.in-Some.entry ∷ []))) (c.in_ok-add_entry.ensures.has done next c.loop-entry.invariant.has);
      workers = c.in_ok-add_entry.ensures.workers ∙ c.loop-entry.invariant.workers;
    }
