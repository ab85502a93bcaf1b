use Rattle.std.proofs.Common.{ap, ◌∙◌}
use Rattle.hibitset_sets.specs.BitSet.{has_member}
use Rattle.hibitset_sets.specs.Iter.{left_of}
use Rattle.scene.proofs.LoopLemmas.{listing-first, listing-next, listing-last}
use Rattle.scene.proofs.changes.indices_of_set.Goals as goal

pub loop-index-init : goal.loop-index-init
loop-index-init c =
    listing-first (has_member c.args.set.now) c.in_ok-indices.indices.items _ (ap (left_of (λ b. has_member b.now)) c.into_iter-index-iterator.ensures.into_iter_gives ∙ c.iter-index-items.ensures.items) c.in_ok-indices.ensures.items

pub loop-index-preserved : goal.loop-index-preserved
loop-index-preserved c =
    listing-next (has_member c.args.set.now) c.loop-index.indices.items _ c.loop-index.invariant c.in-Some.index c.from.result _ c.push.new.self.items c.in-Some.ensures.steps c.from.ensures c.in_ok-push.ensures.items

pub returns : goal.returns
returns c = listing-last (has_member c.args.set.now) c.loop-index.indices.items _ c.loop-index.invariant c.in-None.ensures.steps.0
