use Rattle.shred.proofs.TreeOrderLemmas.{par-to-seq, seq-to-par}
use Rattle.shred.proofs.trees.laws.par_means_seq.Goals as goal

pub returns-clause-to : goal.returns-clause-to
returns-clause-to g c = par-to-seq g.H.RunWithPool.meets g.T.RunWithPool.meets

pub returns-clause-from : goal.returns-clause-from
returns-clause-from g c = seq-to-par g.H.RunWithPool.meets g.T.RunWithPool.meets
