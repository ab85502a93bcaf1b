use Rattle.std.proofs.Common.{◌∙◌, nat_eq}
use Rattle.std.proofs.lemmas.Bool.{eqb-true}
use Rattle.std.proofs.lemmas.Cmp.{nat_eq_equiv}
use Rattle.specs_layouts.specs.Dense.{dense_part}
use Rattle.specs_markers.proofs.LastLemmas.{note-of-last}
use Rattle.specs_markers.proofs.NoteLemmas.{get-number}
use Rattle.specs_markers.proofs.simple.SimpleMarkerAllocatorMarkerAllocatorSimpleMarker.maintain.Goals as goal

pub returns-clause-ok : goal.returns-clause-ok
returns-clause-ok g c id =
    let made = c.in_ok-mapping.ensures in
    note-of-last c.args.entities.now (dense_part c.args.storage.now.inner) nat_eq nat_eq_equiv eqb-true (λ marker. marker) made.range id _
    (get-number c.in_ok-mapping.mapping.entries id ∙ made.ok id)
