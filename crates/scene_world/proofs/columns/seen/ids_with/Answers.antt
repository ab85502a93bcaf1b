use Rattle.std.proofs.Common.{◌≡◌, ℕ, Option, is_some, ap, sym, ◌∙◌}
use Rattle.std.specs.Prelude.{option_and_then}
use Rattle.std.specs.Option.{option_copied}
use Rattle.std.proofs.lemmas.Result.{IfOk-weaker}
use Rattle.shred_world.specs.ResourceIds.{id_of}
use Rattle.scene_world.specs.Stored.{Stored}
use Rattle.scene_world.specs.Known.{roll_held, ids_known_at}
use Rattle.scene_world.specs.Columns.{column_in, column_held}
use Rattle.scene_world.proofs.KnownLemmas.{lent-none, lent-some}
use Rattle.scene_world.proofs.ColumnLemmas.{having-none, having-found}
use Rattle.scene_world.proofs.columns.seen.ids_with.Goals as goal

pub returns-in_default : goal.returns-in_default
returns-in_default g c =
    let w = g.W.Holder.slots c.args.view.now in
    c.new-in_default.ensures.items
    ∙ sym (having-none (roll_held g.V.SceneValue.places w) (column_held (column_in g.S.Resource.part g.S.Column.stored_at) g.S.Resource.kind_number w)
    (λ index. ap (option_and_then (λ v. column_in g.S.Resource.part g.S.Column.stored_at v index)) (lent-none w (id_of g.S.Resource.kind_number 0) c.new.result c.new.ensures c.value.result c.value.ensures c.in_default.is)))

pub returns-in_default-view : goal.returns-in_default-view
returns-in_default-view g c =
    let w = g.W.Holder.slots c.args.view.now in
    c.new-in_default-view.ensures.items
    ∙ sym (having-none (roll_held g.V.SceneValue.places w) (column_held (column_in g.S.Resource.part g.S.Column.stored_at) g.S.Resource.kind_number w)
    (λ index. ap (option_and_then (λ v. column_in g.S.Resource.part g.S.Column.stored_at v index)) (lent-some w (id_of g.S.Resource.kind_number 0) c.new.result c.new.ensures c.value.result c.value.ensures c.in-Some.value c.in-Some.is)
    ∙ ap (option_and_then (λ s. g.S.Column.stored_at s index)) (sym c.view.ensures ∙ ap option_copied c.in_default-view.is)))

pub returns : goal.returns
returns g c =
    let w = g.W.Holder.slots c.args.view.now in
    let column : ℕ → Option Stored = column_held (column_in g.S.Resource.part g.S.Column.stored_at) g.S.Resource.kind_number w in
    let is : (index : ℕ) → column index ≡ g.S.Column.stored_at c.in-Some-view.parts.now index = λ index.
    ap (option_and_then (λ v. column_in g.S.Resource.part g.S.Column.stored_at v index)) (lent-some w (id_of g.S.Resource.kind_number 0) c.new.result c.new.ensures c.value.result c.value.ensures c.in-Some.value c.in-Some.is)
    ∙ ap (option_and_then (λ s. g.S.Column.stored_at s index)) (sym c.view.ensures ∙ ap option_copied c.in-Some-view.is) in
    IfOk-weaker c.ids_in_order.result _ _
    (λ ids are. are ∙ ap (ids_known_at (roll_held g.V.SceneValue.places w)) c.as_slice.ensures.value
    ∙ having-found (roll_held g.V.SceneValue.places w) column c.in_ok-indices.indices.items (λ index. c.in_ok-indices.ensures index ∙ ap is_some (sym (is index))))
    c.ids_in_order.ensures
