use Rattle.std.proofs.Common.{Some, None, sym, subst}
use Rattle.specs_markers.specs.Marks.{Notes}
use Rattle.specs_markers.specs.Uuids.{drawn_under}
use Rattle.specs_markers.proofs.NoteLemmas.{gives-uuid-notes}
use Rattle.specs_markers.proofs.uuids.UuidMarkerAllocatorMarkerAllocatorUuidMarker.allocate.Goals as goal

pub returns-in_ok-note-in-Some-clause-ok : goal.returns-in_ok-note-in-Some-clause-ok
returns-in_ok-note-in-Some-clause-ok g c =
    subst (λ m. Notes (drawn_under c.args.self.now) m c.args.entity (drawn_under c.note.new.self)) (sym c.new.ensures)
    (gives-uuid-notes g.R.Rng.stream c.args.self.now c.note.new.self c.args.entity (Some c.in-Some.uuid) c.in-Some.uuid c.in_ok-note-in-Some.ensures.value)

pub returns-in_ok-uuid-in-None-clause-ok : goal.returns-in_ok-uuid-in-None-clause-ok
returns-in_ok-uuid-in-None-clause-ok g c =
    subst (λ m. Notes (drawn_under c.args.self.now) m c.args.entity (drawn_under c.note_random.new.self)) (sym c.new-in-None.ensures)
    (gives-uuid-notes g.R.Rng.stream c.args.self.now c.note_random.new.self c.args.entity None c.in_ok-uuid-in-None.uuid c.in_ok-uuid-in-None.ensures.value)
