-- What is asked of a builder, one thing after another, and what it is then.
use Rattle.std.specs.Prelude.{◌≡◌, ℕ, Bool, List, [], ◌∷◌, length, map, Some}
use Rattle.shred_world.specs.declared.resource_id.ResourceId.{ResourceId}
use Rattle.shred_plan.specs.Plan.{Added, fence, placing}
use Rattle.shred.specs.Names.{Named, number_under, numbers_under}
use Rattle.shred_stages.specs.Seats.{IsPlanned}
use Rattle.shred.specs.Building.{Building, Declared, built_with, fenced}

-- to take a system of a name, after those of some names; or to close the stages so far
pub data Asked (S : Type 0) : Type 0 where
  system : S → Declared → (name : List ℕ) → (after : List (List ℕ)) → Asked S
  barrier : Asked S

module _ {S : Type 0} (same : ResourceId → ResourceId → Bool) where
  -- a builder once one thing is done, and once all of a list are
  abbrev pub with_asked : Building S → Asked S → Building S
  with_asked building (system one declared name after) = built_with same building one declared name after
  with_asked building barrier = record { staging = fenced same building.staging; names = building.names }

  abbrev pub built_from : Building S → List (Asked S) → Building S
  built_from building [] = building
  built_from building (asked ∷ later) = built_from (with_asked building asked) later

  -- a builder's plan is that of its systems, numbered in the order in which they were added
  abbrev pub IsPlannedIn : Building S → Type 0
  IsPlannedIn building = IsPlanned same building.staging.planning (length building.staging.systems)

  -- what the planner is told meanwhile: names as numbers
  abbrev pub told_of : Building S → Asked S → Added ResourceId
  told_of building (system one declared name after) =
      placing (record { number = length building.staging.systems; reads = declared.reads; writes = declared.writes; after = numbers_under building.names after; time = declared.time })
  told_of building barrier = fence

  abbrev pub told : Building S → List (Asked S) → List (Added ResourceId)
  told building [] = []
  told building (asked ∷ later) = told_of building asked ∷ told (with_asked building asked) later

-- each name is that of a system, and the numbers are theirs, in their order
abbrev pub AreNumbersOf : List Named → (names : List (List ℕ)) → (numbers : List ℕ) → Type 0
AreNumbersOf named names numbers = map (number_under named) names ≡ map Some numbers
