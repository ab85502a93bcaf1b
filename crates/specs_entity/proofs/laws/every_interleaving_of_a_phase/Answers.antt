use Rattle.specs_entity.proofs.PhaseCoreLemmas.{opening-holds, events-hold}
use Rattle.specs_entity.proofs.laws.every_interleaving_of_a_phase.Goals as goal

pub returns : goal.returns
returns c = λ setting phase events fits opening. events-hold setting fits phase events (opening-holds setting fits phase opening)
