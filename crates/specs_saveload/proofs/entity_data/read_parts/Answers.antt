use Rattle.std.proofs.Common.{List, length, map, None, sym, ap, ◌∙◌}
use Rattle.serde_json.specs.View.{view}
use Rattle.serde_json.specs.declared.value.Value.{Value}
use Rattle.specs_saveload.specs.declared.form.FormError.TheVariants as refusal
use Rattle.specs_saveload.specs.Entities.{are_parts}
use Rattle.specs_saveload.proofs.ListLemmas.{list-test}
use Rattle.specs_saveload.proofs.PartsLemmas.{parts-of, ended, place-of, place-shown, is-whole}
use Rattle.specs_saveload.proofs.ReadLemmas.{same-refusal}
use Rattle.specs_saveload.proofs.entity_data.read_parts.Goals as goal

pub returns-in-Err-clause-shape : goal.returns-in-Err-clause-shape
returns-in-Err-clause-shape g c place refused =
    let rest_of = g.D.PartForms.rest_of in
    list-test (are_parts rest_of) _ _ c.in-Some.ensures
    ∙ parts-of rest_of _ None (ap (λ (l : List Value). rest_of (map view l)) (sym c.as_slice.ensures.value) ∙ c.in-Err.ensures.shape place (same-refusal c.in-Err.error (refusal.Shape place) refused))

pub returns-then-is_empty-clause-known : goal.returns-then-is_empty-clause-known
returns-then-is_empty-clause-known g c =
    let rest_of = g.D.PartForms.rest_of in
    list-test (are_parts rest_of) _ _ c.in-Some.ensures
    ∙ (parts-of rest_of _ _ (ap (λ (l : List Value). rest_of (map view l)) (sym c.as_slice.ensures.value) ∙ c.in-Ok.ensures.known)
    ∙ (sym (ended c.in-Ok.rest.now) ∙ (sym c.is_empty.ensures ∙ c.if-is_empty.true)))

pub returns-else-is_empty-clause-shape : goal.returns-else-is_empty-clause-shape
returns-else-is_empty-clause-shape g c _ _ =
    let rest_of = g.D.PartForms.rest_of in
    list-test (are_parts rest_of) _ _ c.in-Some.ensures
    ∙ (parts-of rest_of _ _ (ap (λ (l : List Value). rest_of (map view l)) (sym c.as_slice.ensures.value) ∙ c.in-Ok.ensures.known)
    ∙ (sym (ended c.in-Ok.rest.now) ∙ (sym c.is_empty.ensures ∙ c.if-is_empty.false)))

pub returns-in-Err-clause-place : goal.returns-in-Err-clause-place
returns-in-Err-clause-place g c place refused =
    let rest_of = g.D.PartForms.rest_of in
    let place_in = g.D.PartForms.place_in in
    let unread = ap (λ (l : List Value). rest_of (map view l)) (sym c.as_slice.ensures.value) ∙ c.in-Err.ensures.shape place (same-refusal c.in-Err.error (refusal.Shape place) refused) in
    c.in-Err.ensures.place place (same-refusal c.in-Err.error (refusal.Shape place) refused)
    ∙ (place-shown place_in _ _ _ c.as_slice.ensures.value (c.len.ensures ∙ (sym c.as_slice.ensures.len ∙ ap (λ (l : List Value). length l) c.as_slice.ensures.value)) ∙ sym (place-of rest_of place_in _ _ unread _ c.in-Some.ensures))

pub returns-else-is_empty-clause-place : goal.returns-else-is_empty-clause-place
returns-else-is_empty-clause-place g c place refused =
    let rest_of = g.D.PartForms.rest_of in
    let place_in = g.D.PartForms.place_in in
    let read = ap (λ (l : List Value). rest_of (map view l)) (sym c.as_slice.ensures.value) ∙ c.in-Ok.ensures.known in
    is-whole c.whole-else-is_empty.result place c.whole-else-is_empty.ensures refused ∙ sym (place-of rest_of place_in _ _ read _ c.in-Some.ensures)
