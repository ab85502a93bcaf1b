use Rattle.std.proofs.Common.{ap, ◌∙◌, arith}
use Rattle.hibitset_sets.specs.BitSet.{has_member}
use Rattle.hibitset_sets.specs.Iter.{left_of}
use Rattle.scene_basics.proofs.AskedLemmas.{choosing-first, choosing-there, choosing-taken, choosing-passed, all-chosen}
use Rattle.scene_basics.proofs.asking.indices_in.Goals as goal

pub loop-index-init : goal.loop-index-init
loop-index-init g c =
    choosing-first c.args.ask c.args.mask.now (g.L.UnprotectedStorage.part_at c.args.layout.now) _ (ap (left_of (λ b. has_member b.now)) c.into_iter-index-iterator.ensures.into_iter_gives ∙ c.iter-index-items.ensures.items)
    c.requires _ c.new-indices.ensures.items

pub get-requires : goal.get-requires
get-requires g c = choosing-there c.args.ask c.args.mask.now (g.L.UnprotectedStorage.part_at c.args.layout.now) _ _ c.loop-index.invariant c.in-Some.index _ c.in-Some.ensures.steps

pub loop-index-preserved-in-Continue-1 : goal.loop-index-preserved-in-Continue-1
loop-index-preserved-in-Continue-1 g c =
    choosing-taken c.args.ask c.args.mask.now (g.L.UnprotectedStorage.part_at c.args.layout.now) _ _ c.loop-index.invariant c.in-Some.index _ c.in-Some.ensures.steps c.get.result.now c.may_ask.result c.push.new.self.items c.get.ensures c.may_ask.ensures c.if-may_ask.true c.in_ok-push.ensures.items

pub loop-index-preserved : goal.loop-index-preserved
loop-index-preserved g c =
    choosing-passed c.args.ask c.args.mask.now (g.L.UnprotectedStorage.part_at c.args.layout.now) _ _ c.loop-index.invariant c.in-Some.index _ c.in-Some.ensures.steps c.get.result.now c.may_ask.result c.get.ensures c.may_ask.ensures c.if-may_ask.false

pub returns : goal.returns
returns g c = all-chosen c.args.ask c.args.mask.now (g.L.UnprotectedStorage.part_at c.args.layout.now) _ _ c.loop-index.invariant c.in-None.ensures.steps.0 c.requires (λ index is. let within = c.layer0_as_slice-words.ensures.within index is in let limit = c.layer0_as_slice-words.ensures.limit in omega (arith, within, limit))
