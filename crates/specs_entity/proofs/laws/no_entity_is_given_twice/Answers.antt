use Rattle.specs_entity.proofs.PhaseRestLemmas.{births-apart, births-once}
use Rattle.specs_entity.proofs.laws.no_entity_is_given_twice.Goals as goal

pub returns-clause-two : goal.returns-clause-two
returns-clause-two c = λ setting phase one other claimer claimer' holds. births-apart setting phase holds one other claimer claimer'

pub returns-clause-one : goal.returns-clause-one
returns-clause-one c = λ setting phase one claimer holds. births-once setting phase holds one claimer
