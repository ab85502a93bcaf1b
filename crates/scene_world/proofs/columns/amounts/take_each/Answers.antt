use Rattle.std.proofs.Common.{take, [], ◌∷◌, get_or, sym, subst}
use Rattle.std.proofs.lemmas.List.{take_more, take_all}
use Rattle.scene_world.specs.Columns.{column_in, events_in, emits_in, storing_by}
use Rattle.scene_world.specs.Held.{LessBy}
use Rattle.scene_world.proofs.AmountLemmas.{less-none, less-both}
use Rattle.scene_world.proofs.columns.amounts.take_each.Goals as goal

pub loop-place-init : goal.loop-place-init
loop-place-init g c =
    less-none (column_in g.bound-7.part (storing_by g.T.Storage.UnprotectedStorage.part_at g.T.PlainPart.stored))
    (events_in g.bound-7.part (λ parts. g.T.Storage.UnprotectedStorage.events parts.inner)) (emits_in g.bound-7.part (λ parts. g.T.Storage.UnprotectedStorage.emits parts.inner)) c.args.value.now

pub loop-place-preserved : goal.loop-place-preserved
loop-place-preserved g c =
    let stored = column_in g.bound-7.part (storing_by g.T.Storage.UnprotectedStorage.part_at g.T.PlainPart.stored) in
    let events = events_in g.bound-7.part (λ parts. g.T.Storage.UnprotectedStorage.events parts.inner) in
    let emits = emits_in g.bound-7.part (λ parts. g.T.Storage.UnprotectedStorage.emits parts.inner) in
    let amounts = c.args.amounts.now in
    let place = c.loop-place.place in
    subst (λ front. LessBy stored events emits front c.args.value.now c.take_amount.new.value) (sym (take_more amounts place (0, 0) c.loop-place-test.true))
    (less-both stored events emits (take place amounts) (get_or amounts place (0, 0) ∷ []) c.args.value.now c.loop-place.value c.take_amount.new.value c.loop-place.invariant c.in_ok-take_amount.ensures)

pub returns : goal.returns
returns g c =
    let stored = column_in g.bound-7.part (storing_by g.T.Storage.UnprotectedStorage.part_at g.T.PlainPart.stored) in
    let events = events_in g.bound-7.part (λ parts. g.T.Storage.UnprotectedStorage.events parts.inner) in
    let emits = emits_in g.bound-7.part (λ parts. g.T.Storage.UnprotectedStorage.emits parts.inner) in
    subst (λ front. LessBy stored events emits front c.args.value.now c.loop-place.value) (take_all c.loop-place.place c.args.amounts.now c.loop-place-test.false) c.loop-place.invariant
