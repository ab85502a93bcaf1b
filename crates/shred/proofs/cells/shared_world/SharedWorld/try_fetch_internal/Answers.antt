use Rattle.std.proofs.Common.{ap, sym, ◌∙◌, is_some}
use Rattle.shred.proofs.HashedLemmas.{hashed_at}
use Rattle.shred.proofs.HeldLemmas.{copied-is-there}
use Rattle.shred.proofs.cells.shared_world.SharedWorld.try_fetch_internal.Goals as goal

pub returns : goal.returns
returns g c =
    copied-is-there c.get.result
    ∙ ap is_some (c.get.ensures.value ∙ sym (hashed_at c.self.inside.cells.entries c.args.self.now c.args.id c.self.view_is))
