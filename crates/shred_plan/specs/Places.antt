-- Where a system goes in the stages that there are.
use Rattle.std.specs.Prelude.{◌<◌, List, [], ◌∷◌, ◌++◌, length, Option, Some, None, slice_index_or, slice_set}
use Rattle.shred_plan.specs.Plan.{Placing, Stage, taken}
use Rattle.shred_plan.specs.declared.stage.Way.{Way}
use Rattle.shred_plan.specs.declared.stage.Way.TheVariants.{Alone, Behind}
use Rattle.shred_plan.specs.declared.planner.Place.{Place}

-- a stage has the group at whose end a system is to go, and that group has room
abbrev pub HasRoom : {Id : Type 0} → Stage Id → Way → Type 0
HasRoom stage Alone = Unit {0}
HasRoom stage (Behind place) = (place < length stage) × (length (slice_index_or stage place []) < 4)

-- the stage of a place is there, and has room
abbrev pub IsPlace : {Id : Type 0} → List (Stage Id) → Option Place → Type 0
IsPlace stages None = Unit {0}
IsPlace stages (Some place) = (place.stage < length stages) × HasRoom (slice_index_or stages place.stage []) place.way

-- the stages with a system at a place, or in a new stage at the end
abbrev pub placed_at : {Id : Type 0} → Placing Id → List (Stage Id) → Option Place → List (Stage Id)
placed_at one stages None = stages ++ ((one ∷ []) ∷ []) ∷ []
placed_at one stages (Some place) = slice_set stages place.stage (taken one (slice_index_or stages place.stage []) place.way)
