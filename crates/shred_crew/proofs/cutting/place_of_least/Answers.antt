use Rattle.std.proofs.Common.{◌≡◌, ltb, length, subst, rules}
use Rattle.std.specs.List.{IsFirstBest}
use Rattle.shred_crew.proofs.CutLemmas.{least-is}
use Rattle.shred_crew.proofs.cutting.place_of_least.Goals as goal

pub returns-clause-value : goal.returns-clause-value
returns-clause-value c =
    let all : c.loop-other.other ≡ length c.args.numbers.now = search rules in
    least-is c.args.numbers.now c.loop-other.place c.requires (subst (λ n. IsFirstBest ltb c.args.numbers.now n c.loop-other.place) all c.loop-other.invariant)
