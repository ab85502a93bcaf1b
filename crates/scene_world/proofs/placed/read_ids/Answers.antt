use Rattle.std.proofs.Common.{rules, ◌≡◌, ◌∷◌, ◌++◌, [], map, sym, ap, ◌∙◌}
use Rattle.scene_model.specs.Declaring.{texts, access_of}
use Rattle.scene_world.specs.Places.{kinds_of}
use Rattle.scene_world.proofs.PlacedLemmas.{declared-ids}
use Rattle.scene_world.proofs.placed.read_ids.Goals as goal

pub returns : goal.returns
returns g c =
    let places = g.R.Value.SceneValue.places in
    let columns = g.R.WorldRules.columns in
    let declared = access_of c.args.declared.now in
    let first : c.push-3.new.self.items ≡ places.entities_id ∷ places.markers_id ∷ places.allocator_id ∷ [] = search rules in
    c.in_ok-push_globals.ensures
    ∙ ap (λ l. l ++ map columns.global_id (texts c.deref-2.result.now)) (c.in_ok-push_parts.ensures ∙ ap (λ l. l ++ map columns.part_id (texts c.deref.result.now)) first)
    ∙ ap (λ names. ((places.entities_id ∷ places.markers_id ∷ places.allocator_id ∷ []) ++ map columns.part_id (texts names)) ++ map columns.global_id (texts c.deref-2.result.now)) c.deref.ensures.value
    ∙ ap (λ names. ((places.entities_id ∷ places.markers_id ∷ places.allocator_id ∷ []) ++ map columns.part_id declared.reads) ++ map columns.global_id (texts names)) c.deref-2.ensures.value
    ∙ ap (λ l. places.entities_id ∷ places.markers_id ∷ places.allocator_id ∷ l) (sym (declared-ids (kinds_of places g.R.DocumentRules.part_of columns) declared.reads declared.read_globals))
