-- What contracts see of a set that threads share, and of its seats.
use Rattle.std.specs.Prelude.{◌≡◌, ◌<◌}
use Rattle.hibitset_sets.specs.BitSet.{SetWithRoom}
use Rattle.hibitset.specs.declared.shared_rule.SeatView.{SeatView}
use Rattle.hibitset.specs.declared.shared.BitSeat.{BitSeat}
use Rattle.hibitset.specs.declared.shared.SharedBitSet.{SharedBitSet}

-- what a seat holds, did and saw
abbrev pub view_of_seat : BitSeat → SeatView
view_of_seat seat = seat.seat.me.0

-- the set at `share`
abbrev pub set_at_share : SharedBitSet → SetWithRoom
set_at_share shared = shared.table.shared.key

-- the seat came from this set
abbrev pub IsSeatOf : SharedBitSet → BitSeat → Type 0
IsSeatOf shared seat = (seat.seat.table_id ≡ shared.table.shared.table_id) × (0 < (view_of_seat seat).parts) × ((view_of_seat seat).old ≡ set_at_share shared)
