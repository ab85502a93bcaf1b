use Rattle.std.proofs.Common.{vec_capacity, subst}
use Rattle.specs_layouts.specs.Channels.{Channel, IsChannel}
use Rattle.specs_layouts.proofs.ChannelLemmas.{is-channel}
use Rattle.specs_layouts.proofs.channel.EventChannel.write.Goals as goal

pub returns-in_err-grow-clause-was : goal.returns-in_err-grow-clause-was
returns-in_err-grow-clause-was g c =
    let s = c.self.inside in
    subst (λ (k : Channel g.row.E.Denot). IsChannel k) c.self.view_is
    (is-channel g.E.IndexEvent.index_of g.E.IndexEvent.same_at s.blocks.items (vec_capacity s.blocks) s.places.items s.count c.self.invariant)

pub returns-clause-was : goal.returns-clause-was
returns-clause-was g c =
    let s = c.self.inside in
    subst (λ (k : Channel g.row.E.Denot). IsChannel k) c.self.view_is
    (is-channel g.E.IndexEvent.index_of g.E.IndexEvent.same_at s.blocks.items (vec_capacity s.blocks) s.places.items s.count c.self.invariant)
