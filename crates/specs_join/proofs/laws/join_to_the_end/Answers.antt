use Rattle.std.proofs.Common.{arith}
use Rattle.hibitset_sets.specs.BoundLemmas.{kept-few}
use Rattle.specs_join.proofs.laws.join_to_the_end.Goals as goal

-- each word is read once from each kept set, and a walk goes through at most three a member, and one
pub returns-clause-bound : goal.returns-clause-bound
returns-clause-bound g c =
    let made = c.go_through.ensures in
    let words = g.J.Mask.BitSetLike.words made.0 in
    let kept = g.J.Mask.KeptMasks.kept made.0 in
    let least = g.J.Mask.KeptMasks.least made.0 in
    let few = kept-few (g.J.Mask.BitSetLike.reads made.0) words kept least (g.met.J.Mask.KeptMasks.reads_kept made.0) (g.met.J.Mask.KeptMasks.few_words made.0) in
    let cost = made.2 in
    (made.0, made.1, omega (arith, few, cost))
