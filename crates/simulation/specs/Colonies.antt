-- Colonies: two systems that create and delete in one phase, each by a seat of its own, and what becomes of the entities.
use Rattle.std.specs.Prelude.{◌≡◌, ℕ, Bool, true, false, not, ◌&&◌, eqb, List, [], ◌∷◌, ◌++◌, Option, Some, None, map as list_map, refl}
use Rattle.std.specs.List.{list_any}
use Rattle.std.specs.FinMap as map
use Rattle.specs.specs.ForWorlds.{ResourceId, id_of, Slots, value_at, Holding, owned}
use Rattle.specs.specs.ForSystems.{Placing, with_values, Stop, Staging, Dispatching, Batched, Work, System, NoBatch, NoLocal}
use Rattle.specs.specs.ForStorages.{Births, Entity}
use Rattle.specs.specs.ForSeats.{PhaseSeat, called, phase_at, view_at, births_at, StaysIn, joined_view, AreSettled}
use Rattle.simulation.specs.declared.colonies.values.Held.{Held}
use Rattle.simulation.specs.declared.colonies.values.Held.TheVariants.{EntitiesHeld, TableHeld, SeatHeld}
use Rattle.simulation.specs.declared.colonies.growing.Growth.{Growth}
use Rattle.simulation.specs.Steps.{Accepted}

-- no value is a storage
abbrev pub held_has_part : Held → ℕ → Bool
held_has_part v index = false

abbrev pub held_drops : Held → List ℕ → Held → Type 0
held_drops before indices after = after ≡ before

pub held-parts : (before after : Held) (indices : List ℕ) → held_drops before indices after → (index : ℕ) → held_has_part after index ≡ (not (list_any (eqb index) indices) && held_has_part before index)
held-parts before after indices same index = by (not (list_any (eqb index) indices))
  where
    by : (b : Bool) → false ≡ (b && false)
    by true = refl
    by false = refl

pub held-append : (first second third : Held) (indices others : List ℕ) → held_drops first indices second → held_drops second others third → held_drops first (indices ++ others) third
held-append first second third indices others one other = cc

-- the entities, or the seat, in a value
abbrev pub entities_part : Held → Option Births
entities_part (EntitiesHeld births) = Some births
entities_part (TableHeld kinds) = None
entities_part (SeatHeld seat) = None

abbrev pub seat_part : Held → Option PhaseSeat
seat_part (EntitiesHeld births) = None
seat_part (TableHeld kinds) = None
seat_part (SeatHeld seat) = Some seat

-- where the entities stand, and the seat of a colony
abbrev pub births_id : ResourceId
births_id = id_of 0 0

abbrev pub seat_id : ℕ → ResourceId
seat_id colony = id_of 2 colony

-- the indices of the deletions that a seat lists
abbrev pub deletions_at : PhaseSeat → List ℕ
deletions_at seat = list_map called (view_at seat).kill.calls

-- in the same phase a seat has two births more, and lists the deletion of the first of these
pub record HasGrown (before after : PhaseSeat) : Type 0 where
  pub first : Entity
  pub second : Entity
  pub phase : StaysIn before after
  pub births : births_at after ≡ births_at before ++ first ∷ second ∷ []
  pub deletions : deletions_at after ≡ deletions_at before ++ first.id ∷ []

-- the seat under a colony's number has grown, and nothing else changed
pub record Grows (colony : ℕ) (seen left : Holding Held) : Type 0 where
  pub before : PhaseSeat
  pub after : PhaseSeat
  pub there : seen (seat_id colony) ≡ owned (SeatHeld before)
  pub grown : HasGrown before after
  pub others : left ≡ with_values ((seat_id colony, SeatHeld after) ∷ []) seen

-- a colony's system stays what it is; where it accepts, the colony has grown
abbrev pub GrowthMeets : Growth → Holding Held → Option Stop → Growth → Holding Held → Type 0
GrowthMeets growth seen refused growth_after left = (growth_after ≡ growth) × Accepted (Grows growth.colony) seen refused left

-- as the planner sees them: neither writes what the other does, so both stand in one stage
abbrev pub growing : ℕ → ℕ → Placing ResourceId
growing number colony = record { number = number; reads = []; writes = seat_id colony ∷ []; after = []; time = 3 }

abbrev pub growth_of : ℕ → Growth
growth_of colony = record { colony = colony }

abbrev pub pair : Staging (Work Growth (Batched Growth NoBatch))
pair = record {
  planning = record { first = 0; stages = ((growing 0 1 ∷ []) ∷ (growing 1 2 ∷ []) ∷ []) ∷ [] };
  systems = System (growth_of 1) ∷ System (growth_of 2) ∷ [];
}

-- a dispatcher of the two, and of nothing else
pub record IsPair (dispatching : Dispatching (Work Growth (Batched Growth NoBatch)) NoLocal) : Type 0 where
  pub staging : dispatching.staging ≡ pair
  pub locals : dispatching.locals ≡ []

-- the seats of both colonies stand under their numbers, and the entities are out
pub record Sits (one other : PhaseSeat) (w : Slots Held) : Type 0 where
  pub first : map.get w (seat_id 1) ≡ Some (Some (SeatHeld one))
  pub second : map.get w (seat_id 2) ≡ Some (Some (SeatHeld other))
  pub out : map.get w births_id ≡ Some None

-- a phase began with the world's entities, and each colony has a seat of it that did nothing yet
pub record Opens (before after : Slots Held) : Type 0 where
  pub one : PhaseSeat
  pub other : PhaseSeat
  pub were : value_at before births_id ≡ Some (EntitiesHeld (phase_at one).key.before)
  pub sits : Sits one other after
  pub phase : StaysIn one other
  pub births : (births_at one ≡ []) × (births_at other ≡ [])
  pub deletions : (deletions_at one ≡ []) × (deletions_at other ≡ [])

-- both colonies have grown, whichever seats they sat on
abbrev pub GrowsBoth : (before after : Slots Held) → Type 0
GrowsBoth before after =
    (one other : PhaseSeat) → Sits one other before → (one_after other_after : PhaseSeat) × HasGrown one one_after × HasGrown other other_after × Sits one_after other_after after

-- the phase has ended: the entities are those that both seats list
pub record Gathers (one other : PhaseSeat) (after : Slots Held) : Type 0 where
  pub entities : Births
  pub settled : AreSettled (phase_at one).key (joined_view (view_at one) (view_at other)) entities
  pub back : value_at after births_id ≡ Some (EntitiesHeld entities)

-- from the entities of before, the world's came by the births and deletions that two seats list: each created two, and the first of these is to die
pub record GrowsApart (before after : Slots Held) : Type 0 where
  pub one : PhaseSeat
  pub other : PhaseSeat
  pub first : Entity
  pub second : Entity
  pub third : Entity
  pub fourth : Entity
  pub were : value_at before births_id ≡ Some (EntitiesHeld (phase_at one).key.before)
  pub gathers : Gathers one other after
  pub births : (births_at one ≡ first ∷ second ∷ []) × (births_at other ≡ third ∷ fourth ∷ [])
  pub deletions : (deletions_at one ≡ first.id ∷ []) × (deletions_at other ≡ third.id ∷ [])
