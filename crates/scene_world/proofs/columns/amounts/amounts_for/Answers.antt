use Rattle.std.proofs.Common.{◌≡◌, ◌+◌, ◌++◌, ◌∷◌, [], ℕ, append-nil, take, sym, ap, subst, ◌∙◌}
use Rattle.std.specs.Global.{Vec}
use Rattle.std.specs.List.{filter_map}
use Rattle.std.specs.Option.{option_to_list}
use Rattle.std.proofs.lemmas.List.{take_all}
use Rattle.scene_world.proofs.ColumnLemmas.{given-next}
use Rattle.scene_world.proofs.columns.amounts.amounts_for.Goals as goal
use Rattle.scene_world.proofs.columns.amounts.amounts_for.Goals.{in-Some+in_ok-push, in_default}

pub loop-place-preserved : goal.loop-place-preserved
loop-place-preserved g c =
    let f = g.A.Amounts.amount c.args.of.now (g.W.Holder.slots c.args.view.now) in
    let ids = c.args.ids.now in
    let place = c.loop-place.place in
    elim c.match-amount_for.branch [
      | in-Some+in_ok-push v ↦
          subst (λ (list : Vec (ℕ × ℕ)). list.items ≡ filter_map f (take (place + 1) ids)) (sym v.amounts-is)
          (v.in_ok-push.ensures.items ∙ ap (λ front. front ++ v.in-Some.amount ∷ []) c.loop-place.invariant
          ∙ sym (given-next f ids place c.loop-place-test.true ∙ ap (λ o. filter_map f (take place ids) ++ option_to_list o) (sym c.amount_for.ensures ∙ v.in-Some.is)))
      | in_default v ↦
          subst (λ (list : Vec (ℕ × ℕ)). list.items ≡ filter_map f (take (place + 1) ids)) (sym v.amounts-is)
          (c.loop-place.invariant
          ∙ sym (given-next f ids place c.loop-place-test.true ∙ ap (λ o. filter_map f (take place ids) ++ option_to_list o) (sym c.amount_for.ensures ∙ v.in_default.is) ∙ append-nil (filter_map f (take place ids))))
    ]

pub returns : goal.returns
returns g c =
    let f = g.A.Amounts.amount c.args.of.now (g.W.Holder.slots c.args.view.now) in
    c.loop-place.invariant ∙ ap (filter_map f) (take_all c.loop-place.place c.args.ids.now c.loop-place-test.false)
