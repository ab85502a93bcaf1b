use Rattle.std.proofs.Common.{refl, Some, Result, Ok, Err, OnErr, subst, ap, sym, ◌∙◌}
use Rattle.specs_markers.specs.Uuids.{Drawing, GivesUuid, drawn_under}
use Rattle.specs_markers.proofs.NoteLemmas.{at_uuids, get-uuid, uuid-more}
use Rattle.specs_markers.proofs.uuids.UuidMarkerAllocator.note.Goals as goal

-- what holds anyway holds where a call is refused
on-err : {T E P : Type 0} (result : Result T E) → P → OnErr result P
on-err (Ok value) holds = tt
on-err (Err error) holds = holds

pub returns-in_err-insert-clause-absent : goal.returns-in_err-insert-clause-absent
returns-in_err-insert-clause-absent g c =
    on-err _ (ap (λ (a : Drawing g.row.R.Denot). drawn_under a c.args.uuid) (sym c.self.view_is)
    ∙ (get-uuid c.self.inside.mapping.entries c.args.uuid ∙ c.in_err-insert.ensures.absent))

pub returns-clause-value : goal.returns-clause-value
returns-clause-value g c =
    let after = c.insert.new.self.entries in
    subst (λ a. GivesUuid g.R.Rng.stream a c.args.entity (Some c.args.uuid) c.args.uuid (record { noted = at_uuids after; source = c.self.inside.source })) c.self.view_is
    (record { id = (refl, refl); noted = uuid-more c.self.inside.mapping.entries after c.args.uuid c.args.entity c.in_ok-insert.ensures.updates.0 })
