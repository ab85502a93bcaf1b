-- A seat may be lent to several threads at once: whoever has only a `&` to it can take no step with it.
use denote.RattleType.{RattleType}
use denote.Param.Send.{IsSend, IsSync, part_keyless, sendable, recorded_sync, struct_sync}
use denote.Struct.Declared.{shape}
use Rattle.atomic_table.specs.contracts.shared.Seat as table
use Rattle.atomic_table.proofs.shared.Seat.TheSendSync.{the_send}
use Rattle.hibitset.specs.contracts.shared.BitSeat.{the_row, the_field, the_type}

-- of a table's seat
pub seat_sync : (S V : RattleType) → IsSend S → IsSync (table.the_field S V).row
seat_sync S V sent = record { shared = λ d b o κ q. part_keyless (table.the_field S V).row (the_send S V sent) q d b o }

-- of a seat of a shared set, as a field and alone
pub bit_seat_field_sync : IsSync the_field.row
bit_seat_field_sync = struct_sync (shape the_type) (search (sendable, seat_sync) depth 20)

pub bit_seat_sync : IsSync the_row
bit_seat_sync = recorded_sync _ _ _ the_type.to_one bit_seat_field_sync
