use Rattle.std.proofs.Common.{[], ap, sym, subst, ◌∙◌}
use Rattle.std.proofs.lemmas.Result.{on_ok_weaker}
use Rattle.scene_model.specs.Parts.{Part}
use Rattle.scene_world.specs.Columns.{column_in, events_in, emits_in, storing_by}
use Rattle.scene_world.specs.Numbers.{counting}
use Rattle.scene_world.specs.Putting.{PutsIn}
use Rattle.scene_world.proofs.AmountLemmas.{less-nobody, less-one}
use Rattle.scene_world.proofs.columns.amounts.take_amount.Goals as goal

pub returns-in_default : goal.returns-in_default
returns-in_default g c =
    less-nobody (column_in g.bound-7.part (storing_by g.T.Storage.UnprotectedStorage.part_at g.T.PlainPart.stored))
    (events_in g.bound-7.part (λ parts. g.T.Storage.UnprotectedStorage.events parts.inner)) (emits_in g.bound-7.part (λ parts. g.T.Storage.UnprotectedStorage.emits parts.inner))
    c.args.value.now c.args.index c.args.amount (sym c.number_in.ensures.value ∙ c.in_default.is)

pub returns : goal.returns
returns g c =
    let stored = column_in g.bound-7.part (storing_by g.T.Storage.UnprotectedStorage.part_at g.T.PlainPart.stored) in
    on_ok_weaker c.put.result
    (λ puts. less-one stored (events_in g.bound-7.part (λ parts. g.T.Storage.UnprotectedStorage.events parts.inner)) (emits_in g.bound-7.part (λ parts. g.T.Storage.UnprotectedStorage.emits parts.inner))
    c.args.value.now c.args.index c.args.amount c.put.new.value c.in-Some.number (sym c.number_in.ensures.value ∙ c.in-Some.is)
    (subst (λ (part : Part). PutsIn stored c.args.index part [] c.args.value.now c.put.new.value) (c.datum-left.ensures ∙ ap counting c.saturating_sub.ensures) puts) c.put.ensures.shown)
    c.put.ensures.ok
