use Rattle.specs_entity.proofs.PhaseRestLemmas.{settled}
use Rattle.specs_entity.proofs.laws.a_phase_at_rest_has_settled.Goals as goal

pub returns : goal.returns
returns c = λ setting phase holds rest. settled setting phase holds rest
