use Rattle.hibitset.proofs.AtomicRunLemmas.{run-sound}
use Rattle.hibitset.proofs.laws.every_interleaving_of_a_shared_set.Goals as goal

pub returns : goal.returns
returns c = λ sizes old words callers steps fits of_old. run-sound sizes fits old words callers steps of_old
