use Rattle.std.proofs.Common.{ap, sym, ◌∙◌, is_some}
use Rattle.shred.proofs.HashedLemmas.{hashed_at, hashed_removed}
use Rattle.shred.specs.Held.{without_id}
use Rattle.shred.proofs.cells.shared_world.SharedWorld.remove_raw.Goals as goal

pub returns-clause-value : goal.returns-clause-value
returns-clause-value g c = ap is_some (c.remove.ensures.value ∙ sym (hashed_at c.self.inside.cells.entries c.args.self.now c.args.id c.self.view_is))

pub returns-clause-removed : goal.returns-clause-removed
returns-clause-removed g c = hashed_removed c.self.inside.cells.entries c.remove.new.self.entries c.args.id c.remove.ensures.updates.0 ∙ ap (λ held. without_id held c.args.id) c.self.view_is
