use Rattle.std.proofs.Common.{Some, ap, sym, ◌∙◌}
use Rattle.hibitset_sets.specs.BitSet.{SetWithRoom, has_member}
use Rattle.hibitset_sets.specs.Iter.{left_of}
use Rattle.hibitset_sets.specs.Walk.{walk}
use Rattle.scene.proofs.KeepLemmas.{pairing-first, pairing-there, pairing-next, pairing-last}
use Rattle.scene.proofs.taking.pairs_of.Goals as goal

pub loop-index-init : goal.loop-index-init
loop-index-init c =
    pairing-first c.args.markers.now _ (ap (left_of (λ b. has_member b.now)) c.into_iter-index-iterator.ensures.into_iter_gives ∙ (c.iter-index-items.ensures.items ∙ ap (λ (m : SetWithRoom). walk (has_member m)) c.mask.ensures.value))
    c.mask.ensures.agrees _ c.new-pairs.ensures.items

pub get-requires : goal.get-requires
get-requires c = pairing-there c.args.markers.now _ _ c.loop-index.invariant c.in-Some.index _ c.in-Some.ensures.steps

pub loop-index-preserved : goal.loop-index-preserved
loop-index-preserved c =
    pairing-next c.args.markers.now _ _ c.loop-index.invariant c.in-Some.index _ c.in-Some.ensures.steps c.id.result c.push.new.self.items (c.get.ensures ∙ ap (λ id. Some id) (sym c.id.ensures)) c.in_ok-push.ensures.items

pub returns : goal.returns
returns c = pairing-last c.args.markers.now _ _ c.loop-index.invariant c.in-None.ensures.steps.0 c.mask.ensures.agrees c.mask.ensures.range
