use Rattle.std.proofs.Common.{sym, ap, ◌∙◌}
use Rattle.specs_markers.specs.Simple.{Noting, noted_under}
use Rattle.specs_markers.proofs.CallerLemmas.{get-number}
use Rattle.scene_world.proofs.marker.SceneMarkerAllocatorMarkerAllocatorSceneMarker.retrieve_entity_internal.Goals as goal

pub returns : goal.returns
returns c =
    c.copied.ensures
    ∙ (c.get.ensures.value
    ∙ (sym (get-number c.self.inside.mapping.entries c.args.id) ∙ ap (λ (a : Noting). noted_under a c.args.id) c.self.view_is))
