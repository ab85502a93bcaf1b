use Rattle.std.proofs.Common.{List, slice_get, inl, inr, refl, sym, ap, ◌∙◌, arith}
use Rattle.specs_entity.specs.Life.{LifeAt}
use Rattle.std.proofs.lemmas.Option.{slice_get_within}
use Rattle.specs_saveload.proofs.AskLemmas.{asked-for-all, asked-for-next, asked-for-none, leaves-none, leaves-some}
use Rattle.specs_saveload.proofs.OrderLemmas.{safe-first}
use Rattle.specs_saveload.proofs.RecursionLemmas.{none-at, reaching-begins, reaching-ends, reaching-fits, reaching-goes-on, reaching-grows, reaching-stops}
use Rattle.specs_saveload.proofs.recursive.reach.Goals as goal

pub loop-place-init : goal.loop-place-init
loop-place-init g c =
    (reaching-begins _ _ _ _ _ (record { marks = λ index. refl; entities = c.in-Ok.ensures }) (safe-first _ _), asked-for-none _ _ _ _ _ _ _ _)

pub returns-in_default-clause-ok : goal.returns-in_default-clause-ok
returns-in_default-clause-ok g c =
    reaching-ends _ _ _ _ _ _ _ c.loop-place.invariant.0 (none-at _ _ (ap (λ (l : List LifeAt). slice_get l c.loop-place.place) (sym c.as_slice.ensures.value) ∙ sym c.in_default.ensures))

pub returns-in_default-clause-asks : goal.returns-in_default-clause-asks
returns-in_default-clause-asks g c =
    asked-for-all _ _ _ _ _ _ _ _ _ _ c.loop-place.invariant.1 (none-at _ _ (ap (λ (l : List LifeAt). slice_get l c.loop-place.place) (sym c.as_slice.ensures.value) ∙ sym c.in_default.ensures))

pub loop-place-preserved : goal.loop-place-preserved
loop-place-preserved g c =
    let there = ap (λ (l : List LifeAt). slice_get l c.loop-place.place) (sym c.as_slice.ensures.value) ∙ sym c.in-Some.ensures in
    let grows = reaching-grows _ _ _ _ _ _ _ _ _ c.in-Some.entity c.loop-place.invariant.0 c.in-Ok-ask_for_named.ensures.ok in (
      reaching-goes-on _ _ _ _ _ _ _ _ _ c.in-Some.entity c.loop-place.invariant.0 there (slice_get_within _ _ _ there) c.ask_for_named.ensures.keeps c.in-Ok-ask_for_named.ensures.ok c.in-Ok-ask_for_named.ensures.alive,
      asked-for-next _ _ _ _ _ _ _ _ _ c.in-Some.entity _ _ _ c.loop-place.invariant.1 there grows c.in-Ok-ask_for_named.ensures.asks,
    )

pub returns-in-Err-ask_for_named-clause-refused : goal.returns-in-Err-ask_for_named-clause-refused
returns-in-Err-ask_for_named-clause-refused g c =
    let there = ap (λ (l : List LifeAt). slice_get l c.loop-place.place) (sym c.as_slice.ensures.value) ∙ sym c.in-Some.ensures in
    elim c.in-Err-ask_for_named.ensures.refused [
      | inl one ↦ inl (reaching-stops _ _ _ _ _ _ _ _ c.in-Some.entity one.0 c.loop-place.invariant.0 there one.1 one.2)
      | inr memory ↦ inr memory
    ]

pub returns-in-Err-ask_for_named-clause-leaves : goal.returns-in-Err-ask_for_named-clause-leaves
returns-in-Err-ask_for_named-clause-leaves g c =
    let there = ap (λ (l : List LifeAt). slice_get l c.loop-place.place) (sym c.as_slice.ensures.value) ∙ sym c.in-Some.ensures in
    leaves-some _ _ _ _ _ _ _ _ _ c.loop-place.invariant.0.order _ _ c.in-Some.entity _ _ _ c.loop-place.invariant.0.reached c.loop-place.invariant.0.is_order.entities c.loop-place.invariant.1 there c.in-Err-ask_for_named.ensures.leaves

pub returns-in-Err-clause-leaves : goal.returns-in-Err-clause-leaves
returns-in-Err-clause-leaves g c = leaves-none _ _ _ _ _ _ _ _ _ _

pub returns-clause-ok : goal.returns-clause-ok
returns-clause-ok g c =
    let fits = reaching-fits _ _ _ _ _ _ _ c.loop-place.invariant.0 c.the_living_are_below_the_limit.ensures in
    let done = c.loop-place-test.false in
    reaching-ends _ _ _ _ _ _ _ c.loop-place.invariant.0 (omega (arith, fits, done))

pub returns-clause-asks : goal.returns-clause-asks
returns-clause-asks g c =
    let fits = reaching-fits _ _ _ _ _ _ _ c.loop-place.invariant.0 c.the_living_are_below_the_limit.ensures in
    let done = c.loop-place-test.false in
    asked-for-all _ _ _ _ _ _ _ _ _ _ c.loop-place.invariant.1 (omega (arith, fits, done))
