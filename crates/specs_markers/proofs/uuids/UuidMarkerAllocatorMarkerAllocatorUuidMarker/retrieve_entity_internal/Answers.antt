use Rattle.std.proofs.Common.{sym, ap, ◌∙◌}
use Rattle.specs_markers.specs.Uuids.{Drawing, drawn_under}
use Rattle.specs_markers.proofs.NoteLemmas.{get-uuid}
use Rattle.specs_markers.proofs.uuids.UuidMarkerAllocatorMarkerAllocatorUuidMarker.retrieve_entity_internal.Goals as goal

pub returns : goal.returns
returns g c =
    c.copied.ensures
    ∙ (c.get.ensures.value
    ∙ (sym (get-uuid c.self.inside.mapping.entries c.args.id) ∙ ap (λ (a : Drawing g.row.R.Denot). drawn_under a c.args.id) c.self.view_is))
