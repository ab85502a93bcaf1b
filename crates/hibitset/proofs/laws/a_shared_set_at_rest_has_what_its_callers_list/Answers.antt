use Rattle.hibitset.proofs.AtomicRestLemmas.{at-rest}
use Rattle.hibitset.proofs.laws.a_shared_set_at_rest_has_what_its_callers_list.Goals as goal

pub returns : goal.returns
returns c = λ sizes old run sound rest. at-rest sizes old run sound rest
