use Rattle.std.proofs.Common.{is_some, refl}
use Rattle.specs_layouts.proofs.ShowsLemmas.{shows-taken, shows-same}
use Rattle.specs_layouts.proofs.laws.removals_are_shown.Goals as goal

pub returns-in-Ok : goal.returns-in-Ok
returns-in-Ok g c =
    let layout = g.T.Storage.UnprotectedStorage in
    let before = c.args.storage.now.inner in
    shows-taken layout.part_at layout.events layout.emits before c.remove.new.self.inner c.args.id (is_some (layout.part_at before c.args.id)) refl c.in-Ok.ensures.ok c.in-Ok.ensures.events c.in-Ok.ensures.emission

pub returns-in-Err : goal.returns-in-Err
returns-in-Err g c =
    let layout = g.T.Storage.UnprotectedStorage in
    shows-same layout.part_at layout.events layout.emits c.args.storage.now.inner c.remove.new.self.inner c.in-Err.ensures.err c.in-Err.ensures.silent c.in-Err.ensures.emission
