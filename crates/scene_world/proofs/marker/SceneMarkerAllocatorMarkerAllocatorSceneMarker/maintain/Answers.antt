use Rattle.std.proofs.Common.{◌∙◌, nat_eq}
use Rattle.std.proofs.lemmas.Bool.{eqb-true}
use Rattle.std.proofs.lemmas.Cmp.{nat_eq_equiv}
use Rattle.scene_world.specs.Markers.{marker_at}
use Rattle.specs_markers.proofs.CallerLemmas.{note-of-last}
use Rattle.specs_markers.proofs.CallerLemmas.{get-number}
use Rattle.scene_world.proofs.marker.SceneMarkerAllocatorMarkerAllocatorSceneMarker.maintain.Goals as goal

pub returns-clause-ok : goal.returns-clause-ok
returns-clause-ok c id =
    let made = c.in_ok-mapping.ensures in
    note-of-last c.args.entities.now (marker_at c.args.storage.now) nat_eq nat_eq_equiv eqb-true (λ marker. marker) made.range id _
    (get-number c.in_ok-mapping.mapping.entries id ∙ made.ok id)
