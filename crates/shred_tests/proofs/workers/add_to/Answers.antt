use Rattle.std.proofs.Common.{sym}
use Rattle.shred_stages.proofs.CallerLemmas.{leaves-one, leaves-same, taken-out}
use Rattle.shred_tests.proofs.workers.add_to.Goals as goal

pub put-requires : goal.put-requires
put-requires g c = record { is_out = taken-out _ _ _ c.in-Some.ensures.ok }

pub returns-in-Some : goal.returns-in-Some
returns-in-Some g c = record { leaves = leaves-one _ _ _ _ _ _ (sym c.in-Some.ensures.value) c.in-Some.ensures.ok c.put.ensures }

pub returns-in-None : goal.returns-in-None
returns-in-None g c = record { leaves = leaves-same _ _ c.in-None.ensures.none }
