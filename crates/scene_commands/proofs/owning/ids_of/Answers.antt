use Rattle.std.proofs.Common.{◌≡◌, ◌∙◌, ◌++◌, ◌∷◌, [], ℕ, Option, Some, map, ap, sym}
use Rattle.std.proofs.lemmas.List.{take_all, map-append}
use Rattle.specs_entity.specs.Life.{LifeAt}
use Rattle.scene_model.proofs.CallerLemmas.{front_at}
use Rattle.scene_world.specs.Places.{kinds_of}
use Rattle.scene_world.specs.Rolls.{Roll}
use Rattle.scene_world.specs.Standing.{roll_of}
use Rattle.scene_commands.specs.Acts.{seen_of}
use Rattle.scene_commands.proofs.owning.ids_of.Goals as goal

pub loop-entity-preserved : goal.loop-entity-preserved
loop-entity-preserved g c =
    let roll : Roll = roll_of (kinds_of g.R.Value.SceneValue.places g.R.DocumentRules.part_of g.R.WorldRules.columns) (seen_of c.args.world.now) in
    let marks : LifeAt → Option ℕ = λ entity. roll.marker entity.id in
    let marked : marks c.entity-item.result ≡ Some c.in-Some.id = sym (ap roll.marker c.id.ensures) ∙ sym c.id_marked.ensures ∙ c.in-Some.is in
    front_at marks c.args.entities.now c.loop-entity.entity-index c.entity-item.result c.loop-entity-test.true c.entity-item.is
    ∙ ap (λ l. l ++ marks c.entity-item.result ∷ []) c.loop-entity.invariant
    ∙ ap (λ o. map (λ id. Some id) c.loop-entity.ids.items ++ o ∷ []) marked
    ∙ sym (map-append (λ id. Some id) c.loop-entity.ids.items (c.in-Some.id ∷ []))
    ∙ ap (map (λ id. Some id)) (sym c.in_ok-push.ensures.items)

pub returns : goal.returns
returns g c =
    ap (map (λ entity. (roll_of (kinds_of g.R.Value.SceneValue.places g.R.DocumentRules.part_of g.R.WorldRules.columns) (seen_of c.args.world.now)).marker entity.id)) (sym (take_all c.loop-entity.entity-index c.args.entities.now c.loop-entity-test.false))
    ∙ c.loop-entity.invariant
