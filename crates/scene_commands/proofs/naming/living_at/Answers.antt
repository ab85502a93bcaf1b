use Rattle.std.proofs.Common.{ap, sym, ◌∙◌, subst}
use Rattle.std.proofs.lemmas.Bool.{false≢true}
use Rattle.hibitset_sets.specs.BitSet.{has_member}
use Rattle.hibitset_sets.specs.Iter.{left_of}
use Rattle.scene_commands.proofs.NamingLemmas.{Sorting, sorting-first, sorting-taken, sorting-passed, sorting-last}
use Rattle.scene_commands.proofs.naming.living_at.Goals as goal

pub loop-index-init : goal.loop-index-init
loop-index-init c =
    sorting-first c.args.entities.now (has_member c.args.indices.now) c.the_living_are_below_the_limit.ensures c.new-found.result.items _ c.new-found.ensures.items
    (ap (left_of (λ b. has_member b.now)) c.into_iter-index-iterator.ensures.into_iter_gives ∙ c.iter-index-items.ensures.items)

pub returns : goal.returns
returns c = sorting-last c.args.entities.now (has_member c.args.indices.now) c.loop-index.found.items _ c.in-None.ensures.steps.0 c.loop-index.invariant
