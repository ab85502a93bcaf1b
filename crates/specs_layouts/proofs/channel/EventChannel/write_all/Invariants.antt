use Rattle.std.proofs.Common.{length}
use Rattle.hibitset_sets.specs.Iter.{left_of}
use Rattle.hibitset_sets.specs.Walk.{walk}
use Rattle.specs_layouts.specs.Channels.{log_of}
use Rattle.specs_layouts.proofs.ChannelLemmas.{IsWriting}
use Rattle.specs_layouts.proofs.channel.EventChannel.write_all.Given as goal

abbrev pub invariant-loop-index : goal.invariant-loop-index
invariant-loop-index g l =
    IsWriting (g.E.IndexEvent.same_at l.event) (walk (g.M.BitSetLike.members l.set)) (left_of (λ s. g.M.BitSetLike.members s.now) l.walk) (log_of l.fn.self) (log_of l.self)

abbrev pub decreases-loop-index : goal.decreases-loop-index
decreases-loop-index g l = length (left_of (λ s. g.M.BitSetLike.members s.now) l.walk)
