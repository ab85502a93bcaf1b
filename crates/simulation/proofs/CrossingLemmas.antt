-- What colonies hold may be lent to several threads at once, as their seats may.
use denote.Param.Send.{IsSync, sendable, recorded_sync, enum_sync}
use denote.Enum.Declared.{shape}
use Rattle.std.proofs.Crossing.{crosses}
use Rattle.specs.proofs.CallerLemmas.{phase_seat_field_sync}
use Rattle.simulation.specs.contracts.colonies.values.Held.{the_row, the_type}

pub held_sync : IsSync the_row
held_sync = recorded_sync _ _ _ the_type.to_one (enum_sync (shape the_type) (search (sendable, phase_seat_field_sync, crosses) depth 20))
