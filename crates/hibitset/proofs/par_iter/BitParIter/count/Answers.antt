use Rattle.std.proofs.Common.{rules}
use Rattle.hibitset.proofs.CutLemmas.{length-walk}
use Rattle.hibitset.proofs.FoldLemmas.{if_ok, holds-in-parts, Counts, counts-one, counts-both, counts-whole}
use Rattle.hibitset.proofs.par_iter.BitParIter.count.Goals as goal

pub returns-clause-value : goal.returns-clause-value
returns-clause-value g c = if_ok c.fold.result c.fold.ensures.parts (λ n parts.
    counts-whole _ n (length-walk (g.T.BitSetLike.members c.args.self.now.set)) (holds-in-parts _ _ _ Counts (record {
      starts = λ a started. search rules;
      steps = λ list a b i counted stepped. counts-one list a b i counted (search rules);
      combines = λ list other a b s first second both. counts-both list other a b s first second (search rules);
    }) _ n parts))
