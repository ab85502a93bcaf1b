use Rattle.specs_layouts.proofs.CallerLemmas.{shows-trans}
use Rattle.specs_tests.proofs.flagging.change_and_take.Goals as goal

pub returns : goal.returns
returns g c =
    let layout = g.T.Storage.UnprotectedStorage in
    shows-trans layout.part_at layout.events layout.emits c.args.storage.now.inner c.change_each.new.storage.inner c.removals_are_shown.new.storage.inner c.change_each.ensures.shows c.removals_are_shown.ensures
