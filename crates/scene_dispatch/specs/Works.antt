-- The systems among systems and batches.
use Rattle.std.specs.Prelude.{List, [], ◌∷◌}
use Rattle.shred.specs.declared.work.Work.{Work}
use Rattle.shred.specs.declared.work.Work.TheVariants.{System, Batch}
use Rattle.shred.specs.Building.{Building}
use Rattle.shred_stages.specs.Staging.{Staging}
use Rattle.shred_stages.specs.Runs.{State}

-- the systems, without the batches
abbrev pub systems_in : {P B : Type 0} → List (Work P B) → List P
systems_in [] = []
systems_in (System system ∷ works) = system ∷ systems_in works
systems_in (Batch batch ∷ works) = systems_in works

-- there is no batch
abbrev pub HasNoBatch : {P B : Type 0} → List (Work P B) → Type 0
HasNoBatch [] = Unit {0}
HasNoBatch (System system ∷ works) = HasNoBatch works
HasNoBatch (Batch batch ∷ works) = ⊥

-- the same of what is staged, and of what a builder holds
abbrev pub staging_in : {P B : Type 0} → Staging (Work P B) → Staging P
staging_in staging = record { planning = staging.planning; systems = systems_in staging.systems }

abbrev pub building_in : {P B : Type 0} → Building (Work P B) → Building P
building_in building = record { staging = staging_in building.staging; names = building.names }

-- and of systems with what is held
abbrev pub without_batches : {V P B : Type 0} → State V (Work P B) → State V P
without_batches state = record { systems = systems_in state.systems; held = state.held }
