use Rattle.std.proofs.Common.{vec_capacity, arith}
use Rattle.specs_layouts.proofs.ChannelLemmas.{blocks-fit}
use Rattle.specs_layouts.proofs.channel.EventChannel.reserve.Goals as goal

pub overflow_sub-events : goal.overflow_sub-events
overflow_sub-events g c =
    let s = c.self.inside in
    let fit = blocks-fit g.E.IndexEvent.index_of g.E.IndexEvent.same_at s.blocks.items (vec_capacity s.blocks) s.places.items s.count c.self.invariant in
    omega (arith, fit, s.blocks.ok.0, c.len.ensures, c.in-Some.ensures)
