use Rattle.std.proofs.Common.{true, sym, ap, ◌∙◌}
use Rattle.std.proofs.lemmas.Result.{on_ok_weaker}
use Rattle.specs_layouts.specs.Channels.{log_of}
use Rattle.specs_layouts.specs.Flagged.{tells}
use Rattle.specs_join.specs.ChangeEach.{shared_indices, told_each}
use Rattle.scene_world.proofs.ChangeLemmas.{told-shows, untold, untold-shows}
use Rattle.scene_world.proofs.changes.change_parts.Goals as goal

pub returns-clause-events : goal.returns-clause-events
returns-clause-events g c =
    let off = sym c.is_telling.ensures ∙ c.if-is_telling.false in
    on_ok_weaker c.change_in_layout-outcome.result
    (λ changed. ap log_of (c.from_parts-2.ensures.channel ∙ c.into_parts-parts-2.ensures.channel)
    ∙ sym (untold (tells c.args.storage) (log_of c.args.storage.channel) (shared_indices c.args.mask.now (g.R.Join.joins c.args.read)) off))
    c.change_in_layout-outcome.ensures.ok

pub returns-clause-shows : goal.returns-clause-shows
returns-clause-shows g c =
    untold-shows c.args.storage c.from_parts-2.result (sym c.is_telling.ensures ∙ c.if-is_telling.false)
    (c.from_parts-2.ensures.channel ∙ c.into_parts-parts-2.ensures.channel)
    (c.from_parts-2.ensures.emission ∙ c.into_parts-parts-2.ensures.emission)

pub returns-then-is_telling-clause-events : goal.returns-then-is_telling-clause-events
returns-then-is_telling-clause-events g c =
    let on = sym c.is_telling.ensures ∙ c.if-is_telling.true in
    let log = log_of c.args.storage.channel in
    let indices = shared_indices c.args.mask.now (g.R.Join.joins c.args.read) in
    on_ok_weaker c.change_told_in_layout-outcome.result
    (λ told. ap log_of c.from_parts.ensures.channel ∙ (told
    ∙ (ap (λ channel. told_each true (log_of channel) indices) c.into_parts-parts.ensures.channel ∙ ap (λ b. told_each b log indices) (sym on))))
    c.change_told_in_layout-outcome.ensures.events

pub returns-then-is_telling-clause-shows : goal.returns-then-is_telling-clause-shows
returns-then-is_telling-clause-shows g c =
    let apart = c.into_parts-parts.result in
    told-shows c.args.storage c.from_parts.result apart.0 c.change_told_in_layout-outcome.new.parts apart.1 c.change_told_in_layout-outcome.new.channel
    c.into_parts-parts.ensures.inner c.into_parts-parts.ensures.channel c.from_parts.ensures.inner c.from_parts.ensures.channel
    (c.from_parts.ensures.emission ∙ c.into_parts-parts.ensures.emission) c.change_told_in_layout-outcome.ensures.shows
