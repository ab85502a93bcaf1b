use Rattle.std.proofs.Common.{rules, ap, ◌∙◌, ◌<◌}
use Rattle.std.specs.HashMap.{spare}
use Rattle.shred.proofs.HashedLemmas.{hashed_put, hashed_same}
use Rattle.shred.specs.Held.{with_id}
use Rattle.shred.proofs.HeldLemmas.{not-refused, accepted-not-refused}
use Rattle.shred.proofs.cells.shared_world.SharedWorld.insert_raw.Goals as goal

-- there is room, so the cell is put in
pub unreachable-requires : goal.unreachable-requires
unreachable-requires g c =
    let room : 0 < spare c.reserve.new.self = not-refused c.reserve.result (0 < spare c.reserve.new.self) (search rules) c.reserve.ensures.ok in
    accepted-not-refused c.insert.result c.in-Err.field-0 (c.insert.ensures.succeeds room) c.in-Err.is

-- to make room changes no entry, and then one is put
pub returns-clause-ok : goal.returns-clause-ok
returns-clause-ok g c =
    hashed_put c.reserve.new.self.entries c.insert.new.self.entries c.args.id tt c.in-Ok.ensures.updates.0
    ∙ ap (λ held. with_id held c.args.id) (hashed_same c.self.inside.cells.entries c.reserve.new.self.entries c.reserve.ensures.entries.2 ∙ c.self.view_is)
