-- What half of a tree needs to run by itself, and the values that are lent to it.
use Rattle.std.specs.Prelude.{◌≡◌, List, Option, None, Some}
use Rattle.shred_world.specs.declared.resource_id.ResourceId.{ResourceId}
use Rattle.shred_world.specs.Worlds.{Slots}
use Rattle.shred_world.specs.Bundles.{Holding, holding_of}
use Rattle.shred_stages.specs.Moves.{IsSeat, left_of, moved_to}
use Rattle.shred_stages.specs.Views.{view_slots}
use Rattle.shred.specs.declared.trees.room.Room.{Room}
use Rattle.shred.specs.declared.trees.room.Rooms.{Rooms}

-- the room of a half that reads and writes these ids
pub record IsRoom {V : Type 0} (reads writes : List ResourceId) (room : Room V) : Type 0 where
  pub same_reads : room.reads.items ≡ reads
  pub same_writes : room.writes.items ≡ writes
  pub seat : IsSeat writes room.seat

-- what a half sees that runs in its room
abbrev pub room_slots : {V : Type 0} → Holding V → Room V → Holding V
room_slots w room = view_slots room.reads.items room.writes.items w room.seat

-- the values under some ids went out of a world into a seat
pub record Lends {V : Type 0} (writes : List ResourceId) (w w_after : Holding V) (seat seat_after : Slots V) : Type 0 where
  pub left : (id : ResourceId) → w_after id ≡ left_of writes w id
  pub moved : (id : ResourceId) → holding_of seat_after id ≡ moved_to writes w (holding_of seat) id

-- they went back
pub record Returns {V : Type 0} (writes : List ResourceId) (seat seat_after : Slots V) (w w_after : Holding V) : Type 0 where
  pub left : (id : ResourceId) → holding_of seat_after id ≡ left_of writes (holding_of seat) id
  pub moved : (id : ResourceId) → w_after id ≡ moved_to writes (holding_of seat) w id

-- the rooms of both halves, where there are any
abbrev pub AreRooms : {V : Type 0} → (reads writes reads2 writes2 : List ResourceId) → Option (Rooms V) → Type 0
AreRooms reads writes reads2 writes2 None = Unit {0}
AreRooms reads writes reads2 writes2 (Some rooms) = IsRoom reads writes rooms.head × IsRoom reads2 writes2 rooms.tail
