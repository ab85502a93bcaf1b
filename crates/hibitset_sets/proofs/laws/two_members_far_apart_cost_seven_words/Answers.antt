use Rattle.std.proofs.Common.{arith}
use Rattle.hibitset_sets.specs.BitSet.{has_member}
use Rattle.hibitset_sets.proofs.CostLemmas.{two-far-apart}
use Rattle.hibitset_sets.proofs.laws.two_members_far_apart_cost_seven_words.Goals as goal

pub returns : goal.returns
returns g c i j is apart =
    let seven = two-far-apart (has_member c.args.set.now) i j is apart in
    omega (arith, c.walk_to_the_end.ensures.cost)
