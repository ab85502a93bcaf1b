use Rattle.std.proofs.Common.{◌≡◌, ◌++◌, ◌∙◌, eqb, List, ap, sym}
use Rattle.std.specs.Prelude.{option_and_then}
use Rattle.std.proofs.lemmas.Bool.{eq-eqb}
use Rattle.std.proofs.lemmas.List.{take_all}
use Rattle.std.proofs.lemmas.List.Folds.{list_any_at}
use Rattle.specs_entity.specs.Life.{LifeAt}
use Rattle.scene_world.specs.Putting.{named_in}
use Rattle.scene_commands.specs.Reaching.{any_at}
use Rattle.scene_commands.proofs.LookLemmas.{lent-none, lent-some}
use Rattle.scene_commands.proofs.reaching.kind_names.Goals as goal

pub returns-in_default : goal.returns-in_default
returns-in_default g c =
    sym (ap (λ held. any_at c.args.target (named_in (option_and_then (λ v. g.R.WorldRules.columns.stored c.args.kind.now v c.args.index) held)))
    (lent-none c.args.world.now (g.R.WorldRules.columns.part_id c.args.kind.now) c.part_id.result c.part_id.ensures c.get_raw.result c.get_raw.ensures c.in_default.is))

pub returns-then-id-target : goal.returns-then-id-target
returns-then-id-target g c =
    let stored : List LifeAt = named_in (g.R.WorldRules.columns.stored c.args.kind.now c.in-Some.value.now c.args.index) in
    let items : c.as_slice-entity-items.result.now ≡ stored = c.as_slice-entity-items.ensures.value ∙ c.in_ok-named_at.ensures ∙ ap (λ l. l ++ stored) c.clear.ensures.items in
    sym (ap (λ held. any_at c.args.target (named_in (option_and_then (λ v. g.R.WorldRules.columns.stored c.args.kind.now v c.args.index) held)))
    (lent-some c.args.world.now (g.R.WorldRules.columns.part_id c.args.kind.now) c.part_id.result c.part_id.ensures c.get_raw.result c.get_raw.ensures c.in-Some.value c.in-Some.is)
    ∙ ap (any_at c.args.target) (sym items)
    ∙ list_any_at (λ one. eqb one.id c.args.target) c.as_slice-entity-items.result.now c.loop-entity.entity-index c.entity-item.result c.loop-entity-test.true
    (ap (λ one. eqb one.id c.args.target) (sym c.entity-item.is) ∙ eq-eqb c.entity-item.result.id c.args.target (sym c.id.ensures ∙ c.if-id-target.true)))

pub returns : goal.returns
returns g c =
    let stored : List LifeAt = named_in (g.R.WorldRules.columns.stored c.args.kind.now c.in-Some.value.now c.args.index) in
    let items : c.as_slice-entity-items.result.now ≡ stored = c.as_slice-entity-items.ensures.value ∙ c.in_ok-named_at.ensures ∙ ap (λ l. l ++ stored) c.clear.ensures.items in
    sym (ap (λ held. any_at c.args.target (named_in (option_and_then (λ v. g.R.WorldRules.columns.stored c.args.kind.now v c.args.index) held)))
    (lent-some c.args.world.now (g.R.WorldRules.columns.part_id c.args.kind.now) c.part_id.result c.part_id.ensures c.get_raw.result c.get_raw.ensures c.in-Some.value c.in-Some.is)
    ∙ ap (any_at c.args.target) (sym items ∙ sym (take_all c.loop-entity.entity-index c.as_slice-entity-items.result.now c.loop-entity-test.false))
    ∙ c.loop-entity.invariant)
