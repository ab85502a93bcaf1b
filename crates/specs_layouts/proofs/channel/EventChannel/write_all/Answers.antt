use Rattle.std.proofs.Common.{◌∷◌, ◌/◌, Result, Ok, Err, OnErr, ap, ◌∙◌}
use Rattle.hibitset_sets.specs.Iter.{left_of}
use Rattle.hibitset_sets.specs.Walk.{walk, word_indices}
use Rattle.specs_layouts.specs.Blocks.{same_events}
use Rattle.specs_layouts.specs.Channels.{log_of, with_more}
use Rattle.specs_layouts.proofs.ChannelLemmas.{same-word, writing-next, writing-stopped}
use Rattle.specs_layouts.proofs.channel.EventChannel.write_all.Goals as goal

pub loop-index-preserved : goal.loop-index-preserved
loop-index-preserved g c =
    let index_of = g.E.IndexEvent.index_of in
    let same_at = g.E.IndexEvent.same_at in
    let event = c.args.event in
    let index = c.in-Some.index in
    let more = c.in-Some.more in
    let now = log_of c.loop-index.self in
    let told = c.in_ok-write_block.ensures.ok
    ∙ ap (λ e. with_more now (same_events index_of same_at e more)) c.at.ensures
    ∙ ap (λ events. with_more now events) (same-word index_of same_at g.met.E.IndexEvent.index_at g.met.E.IndexEvent.same_again event index more) in
    writing-next (same_at event) (walk (g.M.BitSetLike.members c.args.set.now)) (log_of c.args.self.now)
    (left_of (λ s. g.M.BitSetLike.members s.now) c.loop-index.walk) (index ∷ word_indices (index / 64) more) (left_of (λ s. g.M.BitSetLike.members s.now) c.next_word.new.self)
    now (log_of c.write_block.new.self) c.in-Some.ensures.items told c.loop-index.invariant

always : {T E : Type 0} (result : Result T E) (P : Type 0) → P → OnErr result P
always (Ok value) P holds = tt
always (Err error) P holds = holds

pub returns-in_err-write_block-clause-err : goal.returns-in_err-write_block-clause-err
returns-in_err-write_block-clause-err g c =
    let stopped = writing-stopped (g.E.IndexEvent.same_at c.args.event) (walk (g.M.BitSetLike.members c.args.set.now)) (log_of c.args.self.now)
    (left_of (λ s. g.M.BitSetLike.members s.now) c.loop-index.walk) (log_of c.loop-index.self) c.loop-index.invariant in
    always c.from_residual.result _ (stopped.0, ap log_of c.in_err-write_block.ensures.err ∙ stopped.1)
