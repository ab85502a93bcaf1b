use Rattle.std.proofs.Common.{take}
use Rattle.shred_stages.specs.Moves.{IsSeat}
use Rattle.shred_stages.proofs.seat.seat_for.Given as goal

abbrev pub invariant-loop-id : goal.invariant-loop-id
invariant-loop-id g l = IsSeat (take l.id-index l.writes) l.seat
