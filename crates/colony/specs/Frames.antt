-- What a frame of a colony comes to: what its dispatcher holds, and how its systems take their turns.
use Rattle.std.specs.Prelude.{◌≡◌, ℕ, List, [], ◌∷◌, ◌++◌}
use Rattle.specs.specs.ForSystems.{Batched, Dispatching, Either, Left, NoBatch, Placing, Right, Staging, System, Turns, Work}
use Rattle.specs.specs.ForWorlds.{Holding, ResourceId, Slots, holding_of, id_of}
use Rattle.colony.specs.Systems.{Ends, Moves, newcomer}
use Rattle.colony.specs.declared.systems.Asking.{Asking}
use Rattle.colony.specs.declared.systems.Ending.{Ending}
use Rattle.colony.specs.declared.systems.Moving.{Moving}
use Rattle.colony.specs.declared.values.Value.{Value}
use Rattle.colony.specs.declared.values.Value.TheVariants.{AskedValue, EntitiesValue, PositionValue}

abbrev pub Staged : Type 0
Staged = Work (Either Moving Asking) (Batched (Either Moving Asking) NoBatch)

-- as the planner sees them: each waits for the one before
abbrev pub moving : (number : ℕ) → (after : List ℕ) → Placing ResourceId
moving number after = record { number = number; reads = id_of 3 0 ∷ id_of 0 0 ∷ id_of 0 0 ∷ []; writes = id_of 2 0 ∷ []; after = after; time = 3 }

abbrev pub asking : Placing ResourceId
asking = record { number = 1; reads = []; writes = id_of 7 0 ∷ []; after = 0 ∷ []; time = 3 }

abbrev pub three_staged : Staging Staged
three_staged = record {
  planning = record { first = 0; stages = ((moving 0 [] ∷ []) ∷ []) ∷ ((asking ∷ []) ∷ []) ∷ ((moving 2 (1 ∷ []) ∷ []) ∷ []) ∷ [] };
  systems = System (Left (record {})) ∷ System (Right (record {})) ∷ System (Left (record {})) ∷ [];
}

-- a dispatcher of the three, and of the local one
pub record IsColony (dispatching : Dispatching Staged Ending) : Type 0 where
  pub staging : dispatching.staging ≡ three_staged
  pub locals : dispatching.locals ≡ record {} ∷ []

-- each position gains its velocity; a newcomer is asked for; the deletions of those that have come are accepted
abbrev pub Move : (before after : Holding Value) → Type 0
Move = Turns (id_of 2 0) PositionValue Moves

abbrev pub Ask : (before after : Holding Value) → Type 0
Ask = Turns (id_of 7 0) AskedValue (λ jobs _ now. now ≡ jobs ++ newcomer ∷ [])

abbrev pub End : (before after : Holding Value) → Type 0
End = Turns (id_of 0 0) EntitiesValue Ends

-- all moved, one was asked for, all moved once more, and then the deletions were accepted
abbrev pub Dispatches : (before after : Holding Value) → Type 0
Dispatches before after = (first second third : Holding Value) × Move before first × Ask first second × Move second third × End third after

-- a frame: a dispatch, and then what maintains a world
pub record Frames (maintains : (before after : Slots Value) → Type 0) (before after : Slots Value) : Type 0 where
  pub dispatched : Slots Value
  pub dispatches : Dispatches (holding_of before) (holding_of dispatched)
  pub maintained : maintains dispatched after
