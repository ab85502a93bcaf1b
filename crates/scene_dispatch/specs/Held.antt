-- What a dispatcher of a scene's systems holds, and what is noted of it.
use Rattle.std.specs.Prelude.{◌≡◌, ℕ, List, map}
use Rattle.shred.specs.declared.work.Work.{Work}
use Rattle.shred.specs.Dispatching.{Dispatching}
use Rattle.shred.specs.Dispatchers.{Drafting}
use Rattle.shred_stages.specs.Staging.{Staging}
use Rattle.scene_model.specs.Scenes.{PlainSystem}
use Rattle.scene_world.specs.Standing.{Kinds}
use Rattle.scene_dispatch.specs.Works.{systems_in, HasNoBatch, staging_in, building_in}
use Rattle.scene_dispatch.specs.Orders.{positions_of}
use Rattle.scene_dispatch.specs.Lent.{PlanIsThere, EachIsLent}

-- the systems of a dispatcher that has no batch, and whose local ones hold a system each
abbrev pub dispatching_in : {P B L : Type 0} → (L → P) → Dispatching (Work P B) L → Dispatching P P
dispatching_in placed dispatching = record { staging = staging_in dispatching.staging; locals = map placed dispatching.locals; workers = dispatching.workers }

-- the same of what a builder holds
abbrev pub drafting_in : {P B L : Type 0} → (L → P) → Drafting (Work P B) L → Drafting P P
drafting_in placed draft = record { building = building_in draft.building; locals = map placed draft.locals; workers = draft.workers }

-- there is no batch, each system is lent what it declares, the staged ones by their plan, and their positions are noted
pub record AreHeld {V P B : Type 0} (kinds : Kinds V) (plain : P → PlainSystem) (staged : Staging (Work P B)) (locals : List P) (staged_at local_at : List ℕ) : Type 0 where
  pub no_batch : HasNoBatch staged.systems
  pub lent : PlanIsThere kinds (map plain (systems_in staged.systems)) staged.planning.stages
  pub local_lent : EachIsLent kinds (map plain locals)
  pub positions : staged_at ≡ positions_of (map plain (systems_in staged.systems))
  pub local_positions : local_at ≡ positions_of (map plain locals)
