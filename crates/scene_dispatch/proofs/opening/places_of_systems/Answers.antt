use Rattle.std.proofs.Common.{◌≡◌, ◌+◌, ℕ, Bool, true, List, [], ◌∷◌, ◌++◌, map, take, length, ap, sym, ◌∙◌, arith}
use Rattle.std.proofs.lemmas.List.{map-append, length-map, length-take-le, take_all}
use Rattle.scene_model.specs.Scenes.{PlainSystem}
use Rattle.scene_model.proofs.CallerLemmas.{front_at}
use Rattle.scene_document.specs.Drafts.{DraftEntry, DraftSystem}
use Rattle.scene_document.specs.DraftViews.{plain_draft}
use Rattle.scene_document.specs.Openings.{systems_at}
use Rattle.scene_dispatch.proofs.FoundLemmas.{systems-append}
use Rattle.scene_dispatch.proofs.opening.places_of_systems.Goals as goal

pub loop-index-preserved : goal.loop-index-preserved
loop-index-preserved g c =
    let entries = c.args.entries.now in
    let i = c.loop-index.index in
    let one = c.index-entries-index.result in
    let all : DraftSystem → Bool = λ one. true in
    let position : PlainSystem → ℕ = λ one. one.position in
    let seen : List DraftEntry = map plain_draft (take i entries) in
    let last : List DraftEntry = plain_draft one ∷ [] in
    let count : i + 1 ≡ 1 + length seen = let e = length-map (take i entries) plain_draft in let f = length-take-le i entries (omega (arith, c.loop-index-test.true)) in omega (arith, e, f) in
    c.in_ok-push_place.ensures ∙ ap (λ list. list ++ map position (systems_at all (i + 1) last)) c.loop-index.invariant
    ∙ sym (map-append position (systems_at all 1 seen) (systems_at all (i + 1) last)) ∙ ap (map position) (sym (systems-append all 1 (i + 1) seen last count))
    ∙ ap (λ list. map position (systems_at all 1 list)) (sym (front_at plain_draft entries i one c.loop-index-test.true c.index-entries-index.is))

pub returns : goal.returns
returns g c = λ plain its.
    c.loop-index.invariant ∙ ap (λ list. map (λ one. one.position) (systems_at (λ one. true) 1 (map plain_draft list))) (take_all c.loop-index.index c.args.entries.now c.loop-index-test.false)
    ∙ ap (λ list. map (λ one. one.position) (systems_at (λ one. true) 1 list)) (sym its)
