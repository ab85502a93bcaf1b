use Rattle.std.proofs.Common.{refl}
use Rattle.specs_entity.proofs.PhaseHandLemmas.{same-seat}
use Rattle.specs_entity.proofs.phase_seat.PhaseSeat.split.Goals as goal

pub returns-in-Err-split-clause-phase : goal.returns-in-Err-split-clause-phase
returns-in-Err-split-clause-phase c = same-seat _ _ refl c.in-Err-split.ensures.seats
