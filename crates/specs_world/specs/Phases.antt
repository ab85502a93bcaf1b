-- Phases of a world's entities: how one is opened, and how it ends.
use Rattle.std.specs.Prelude.{◌≡◌, ℕ, Some, None}
use Rattle.std.specs.FinMap as map
use Rattle.shred_world.specs.Worlds.{Slots}
use Rattle.specs_entity.specs.Births.{Births}
use Rattle.specs_entity.specs.declared.phase_seat.PhaseSeat.{PhaseSeat}
use Rattle.specs_entity.specs.PhaseSeats.{phase_at, view_at}
use Rattle.specs_entity.specs.PhaseViews.{whole_view}
use Rattle.specs_entity.specs.SharedSeats.{AreSettled}
use Rattle.specs_world.specs.Resources.{Place, held}

-- the entities are out of the world, which keeps their slot, and the seat holds all parts of a phase that began with them
pub record OpensPhase {V : Type 0} (entities_at : Place V Births) (reserve : ℕ) (seat : PhaseSeat) (before after : Slots V) : Type 0 where
  pub entities : held entities_at before ≡ Some (phase_at seat).key.before
  pub reserved : (phase_at seat).key.reserve ≡ reserve
  pub whole : view_at seat ≡ whole_view (phase_at seat).key
  pub out : after ≡ map.insert before entities_at.id None

-- the entities that the phase of the seat settled to are back in their slot
pub record ClosesPhase {V : Type 0} (entities_at : Place V Births) (seat : PhaseSeat) (before after : Slots V) : Type 0 where
  pub entities : Births
  pub settled : AreSettled (phase_at seat).key (view_at seat) entities
  pub back : after ≡ map.insert before entities_at.id (Some (entities_at.wrapped entities))
