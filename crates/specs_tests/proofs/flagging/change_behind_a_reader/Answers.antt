use Rattle.std.proofs.Common.{◌∙◌}
use Rattle.specs_layouts.proofs.CallerLemmas.{caught-reads, tells-alike, tells-first, tells-more}
use Rattle.specs_tests.proofs.flagging.change_behind_a_reader.Goals as goal

pub returns : goal.returns
returns g c =
    let layout = g.T.Storage.UnprotectedStorage in
    let reader = c.args.reader.now in
    let caught = c.catch_up.new.self.inner in
    let after = c.change_and_take.new.storage.inner in
    let first = tells-first layout.part_at layout.events layout.emits reader caught (caught-reads (layout.events caught) reader (c.catch_up.ensures.caught_up c.requires.reader)) in
    tells-alike layout.part_at layout.events layout.emits reader c.args.storage.now.inner caught after
    (tells-more layout.part_at layout.events layout.emits reader caught caught after first (c.catch_up.ensures.emission ∙ c.requires.emits) c.change_and_take.ensures) c.catch_up.ensures.parts
