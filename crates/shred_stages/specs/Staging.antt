-- What a builder of stages holds: the plan of its systems, and the systems by their numbers.
use Rattle.std.specs.Prelude.{◌≡◌, ℕ, Option, None, Some, List, Result, Ok, Err}
use Rattle.shred_world.specs.declared.resource_id.ResourceId.{ResourceId}
use Rattle.shred_world.specs.Worlds.{Slots}
use Rattle.shred_world.specs.Bundles.{Holding}
use Rattle.shred_plan.specs.Plan.{Planning}
use Rattle.shred_stages.specs.Runs.{StagesRun}
use Rattle.shred_stages.specs.Setups.{DisposesEach}
use Rattle.shred_stages.specs.declared.stop.Stop.{Stop}
use Rattle.shred_stages.specs.declared.error.DispatchError.{DispatchError}
use Rattle.shred_stages.specs.declared.error.DispatchError.TheVariants.{System, Local, Memory, Threads}

-- the plan, and the systems by number
pub record Staging (S : Type 0) : Type 0 where
  pub planning : Planning ResourceId
  pub systems : List S

-- an answer tells which system refused first, and why
abbrev pub Tells : {A : Type 0} → Result A DispatchError → Option (ℕ × Stop) → Type 0
Tells (Ok a) refused = refused ≡ None
Tells (Err (System id stop)) refused = refused ≡ Some (id.0, stop)
Tells (Err (Local place stop)) refused = ⊥
Tells (Err Memory) refused = ⊥
Tells (Err Threads) refused = ⊥

-- the stages run, and the answer tells the first refusal in the order of the plan
abbrev pub Runs : {V S A : Type 0} → (S → Holding V → Option Stop → S → Holding V → Type 0) → Staging S → Holding V → Result A DispatchError → Staging S → Holding V → Type 0
Runs {V} {S} meets before held result after held_after =
    (refused : Option (ℕ × Stop)) × Tells result refused
    × StagesRun meets before.planning.stages (record { systems = before.systems; held = held }) refused (record { systems = after.systems; held = held_after })

-- systems are let go, and the answer tells the first refusal
abbrev pub DisposesAll : {V S A : Type 0} → (S → Option Stop → Slots V → Slots V → Type 0) → List S → Result A DispatchError → Slots V → Slots V → Type 0
DisposesAll disposes systems result w w_after = (refused : Option (ℕ × Stop)) × Tells result refused × DisposesEach disposes 0 systems refused w w_after
