use Rattle.std.proofs.Common.{◌∙◌}
use Rattle.std.specs.Str.{bytes_eq}
use Rattle.std.proofs.lemmas.Cmp.{nat_list_eq_equiv}
use Rattle.std.proofs.lemmas.Slice.Eq.{bytes_eq-Decides}
use Rattle.specs_layouts.specs.Slots.{slot_at, slots_of}
use Rattle.specs_markers.proofs.LastLemmas.{note-of-last}
use Rattle.specs_markers.proofs.NoteLemmas.{get-uuid}
use Rattle.specs_markers.proofs.uuids.UuidMarkerAllocatorMarkerAllocatorUuidMarker.maintain.Goals as goal

pub returns-clause-ok : goal.returns-clause-ok
returns-clause-ok g c id =
    let made = c.in_ok-mapping.ensures in
    note-of-last c.args.entities.now (slot_at (slots_of c.args.storage.now.inner)) bytes_eq nat_list_eq_equiv (λ x y. (bytes_eq-Decides x y).0) (λ marker. marker) made.range id _
    (get-uuid c.in_ok-mapping.mapping.entries id ∙ made.ok id)
