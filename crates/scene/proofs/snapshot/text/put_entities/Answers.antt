use Rattle.std.proofs.Common.{ℕ, ◌≡◌, ◌++◌, ◌∷◌, [], List, Option, map, append_assoc, append-nil, sym, ap, subst, ◌∙◌}
use Rattle.std.proofs.lemmas.List.{map-append}
use Rattle.std.specs.Prelude.{option_and_then}
use Rattle.std.specs.FinMap as finite
use Rattle.json.specs.Token.{begin_array, end_array}
use Rattle.scene_model.specs.Parts.{Json}
use Rattle.scene_document.specs.Texts.{entity_json}
use Rattle.scene.specs.Rows.{seats_kept}
use Rattle.scene.specs.KeptScenes.{bearers, part_kept, kept_scene, entity_with}
use Rattle.scene.specs.Printing.{AddsItems, AddsJson}
use Rattle.scene.proofs.BearerLemmas.{bearer-among}
use Rattle.scene.proofs.PrintLemmas.{wrote, on-wrote, items-none, items-then, array-added}
use Rattle.scene.proofs.snapshot.text.put_entities.Goals as goal

pub loop-id-init : goal.loop-id-init
loop-id-init g c = (
  [],
  c.into_iter-id-iterator.ensures.into_iter_gives.0 ∙ (c.in_ok-found.ensures ∙ ap (λ seats. finite.entries (bearers seats)) c.seats.ensures),
  items-none (begin_array ∷ []) c.args.out.now c.begin_array.new.self (wrote _ c.args.out.now c.begin_array.new.self begin_array c.in_ok-begin_array.ensures),
)

pub loop-id-preserved : goal.loop-id-preserved
loop-id-preserved g c =
    let book = g.R.DocumentRules.book c.args.rules.now in
    let kept = c.args.kept.now in
    let entity : ℕ → Json = entity_json book (kept_scene g.R.DocumentRules.part_of g.R.DocumentRules.global_of g.V.ByPlace.at_place book kept) in
    let done : List (ℕ × ℕ) = c.loop-id.invariant.0 in
    let before : List Json = map entity (map (λ (e : ℕ × ℕ). e.0) done) in
    let one : ℕ × ℕ = (c.in-Some.id.now, c.in-Some.index.now) in
    let split : done ++ one ∷ c.next.new.self ≡ finite.entries (bearers (seats_kept kept)) = ap (λ rest. done ++ rest) (sym c.in-Some.ensures.steps) ∙ c.loop-id.invariant.1 in
    let at = bearer-among (bearers (seats_kept kept)) c.in_ok-found.found done c.next.new.self one (c.in_ok-found.ensures ∙ ap (λ seats. finite.entries (bearers seats)) c.seats.ensures) split
    c.into_iter-id-iterator.ensures.into_iter_gives.6 in
    let more : map entity (map (λ (e : ℕ × ℕ). e.0) (done ++ one ∷ [])) ≡ before ++ entity one.0 ∷ [] =
    ap (map entity) (map-append (λ (e : ℕ × ℕ). e.0) done (one ∷ [])) ∙ map-append entity (map (λ (e : ℕ × ℕ). e.0) done) (one.0 ∷ []) in (
      done ++ one ∷ [],
      append_assoc done (one ∷ []) c.next.new.self ∙ split,
      subst (λ values. AddsItems (begin_array ∷ []) values c.args.out.now c.put_entity.new.out) (sym more)
          (items-then (begin_array ∷ []) before (entity one.0) c.args.out.now c.loop-id.out c.put_entity.new.out c.loop-id.invariant.2
          (subst (λ (o : Option ℕ). AddsJson (entity_with book (λ kind. option_and_then (λ index. part_kept g.R.DocumentRules.part_of book kept index kind) o) one.0) c.loop-id.out c.put_entity.new.out) (sym at) c.in_ok-put_entity.ensures)),
    )

pub returns : goal.returns
returns g c =
    let book = g.R.DocumentRules.book c.args.rules.now in
    let kept = c.args.kept.now in
    let entity : ℕ → Json = entity_json book (kept_scene g.R.DocumentRules.part_of g.R.DocumentRules.global_of g.V.ByPlace.at_place book kept) in
    let done : List (ℕ × ℕ) = c.loop-id.invariant.0 in
    let all : done ≡ finite.entries (bearers (seats_kept kept)) = sym (append-nil done) ∙ ap (λ rest. done ++ rest) (sym c.in-None.ensures.steps.0) ∙ c.loop-id.invariant.1 in
    on-wrote c.end_array.result c.loop-id.out c.end_array.new.self end_array _ c.end_array.ensures
    (λ closed. array-added (map entity (finite.keys (bearers (seats_kept kept)))) c.args.out.now c.loop-id.out c.end_array.new.self
    (subst (λ (some : List (ℕ × ℕ)). AddsItems (begin_array ∷ []) (map entity (map (λ (e : ℕ × ℕ). e.0) some)) c.args.out.now c.loop-id.out) all c.loop-id.invariant.2) closed)
