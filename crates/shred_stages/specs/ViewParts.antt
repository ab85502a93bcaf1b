-- The parts of a view.
use Rattle.std.specs.Prelude.{List}
use Rattle.std.specs.Borrow.{Bor}
use Rattle.shred_world.specs.declared.resource_id.ResourceId.{ResourceId}
use Rattle.shred_world.specs.Worlds.{Slots}
use Rattle.shred_stages.specs.declared.view.View.{View}

module _ {V W : Type 0} where
  -- what it reads in
  abbrev pub world_of : View V W → Bor W
  world_of view = view.world

  -- the ids that are read there
  abbrev pub reads_of : View V W → Bor (List ResourceId)
  reads_of view = view.reads

  -- the ids that are written
  abbrev pub writes_of : View V W → Bor (List ResourceId)
  writes_of view = view.writes

  -- the values under these, which were moved out of there
  abbrev pub seat_of : View V W → Slots V
  seat_of view = view.seat
