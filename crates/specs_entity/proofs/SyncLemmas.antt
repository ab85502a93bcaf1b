-- A seat of a phase may be lent to several threads at once: whoever has only a `&` to it can take no step with it.
use denote.Param.Send.{IsSync, sendable, recorded_sync, struct_sync}
use denote.Struct.Declared.{shape}
use Rattle.std.proofs.Crossing.{crosses}
use Rattle.hibitset.proofs.CallerLemmas.{seat_sync}
use Rattle.specs_entity.proofs.shared_entities.SharedEntities.TheSendSync as shared
use Rattle.specs_entity.specs.contracts.shared_entities.EntitySeat as seat
use Rattle.specs_entity.specs.contracts.phase_seat.PhaseSeat as phase

entity_seat_field_sync : IsSync seat.the_field.row
entity_seat_field_sync = struct_sync (shape seat.the_type) (search (sendable, seat_sync, crosses) depth 20)

-- as a field and alone
pub phase_seat_field_sync : IsSync phase.the_field.row
phase_seat_field_sync =
    struct_sync (shape phase.the_type) (search (sendable, entity_seat_field_sync, shared.the_send, shared.the_sync, crosses) depth 20)

pub phase_seat_sync : IsSync phase.the_row
phase_seat_sync = recorded_sync _ _ _ phase.the_type.to_one phase_seat_field_sync

pub entity_seat_sync : IsSync seat.the_row
entity_seat_sync = recorded_sync _ _ _ seat.the_type.to_one entity_seat_field_sync
