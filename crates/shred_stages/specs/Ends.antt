-- How a run on threads ends: as on one thread, or, for want of memory or of a thread, before it begins.
use Rattle.std.specs.Prelude.{◌≡◌, Option, None, Some, List, Result, Ok, Err}
use Rattle.shred_world.specs.declared.resource_id.ResourceId.{ResourceId}
use Rattle.shred_world.specs.Bundles.{Holding}
use Rattle.shred_plan.specs.Plan.{Stage}
use Rattle.shred_stages.specs.declared.stop.Stop.{Stop}
use Rattle.shred_stages.specs.declared.error.DispatchError.{DispatchError}
use Rattle.shred_stages.specs.declared.error.DispatchError.TheVariants.{System, Local, Memory, Threads}
use Rattle.shred_stages.specs.Runs.{State, StagesRun}
use Rattle.shred_stages.specs.Staging.{Staging, Runs}

-- no system ran: each is as it was, and what was held is
abbrev pub NoneRan : {V S : Type 0} → State V S → State V S → Type 0
NoneRan before after = after ≡ before

module _ {V S : Type 0} (meets : S → Holding V → Option Stop → S → Holding V → Type 0) where
  -- the stages run up to the first in which a system refuses, or none does
  abbrev pub EndsAs : {A : Type 0} → List (Stage ResourceId) → State V S → Result A DispatchError → State V S → Type 0
  EndsAs stages before (Ok a) after = StagesRun meets stages before None after
  EndsAs stages before (Err (System id stop)) after = StagesRun meets stages before (Some (id.0, stop)) after
  EndsAs stages before (Err (Local place stop)) after = ⊥
  EndsAs stages before (Err Memory) after = NoneRan before after
  EndsAs stages before (Err Threads) after = NoneRan before after

  -- the same of a builder: where all stages run, or a system refuses, it is a run on one thread
  abbrev pub RunsApart : {A : Type 0} → Staging S → Holding V → Result A DispatchError → Staging S → Holding V → Type 0
  RunsApart before held (Ok a) after held_after = Runs meets before held (Ok a) after held_after
  RunsApart {A} before held (Err (System id stop)) after held_after = Runs {A = A} meets before held (Err (System id stop)) after held_after
  RunsApart before held (Err (Local place stop)) after held_after = ⊥
  RunsApart before held (Err Memory) after held_after = NoneRan (record { systems = before.systems; held = held }) (record { systems = after.systems; held = held_after })
  RunsApart before held (Err Threads) after held_after = NoneRan (record { systems = before.systems; held = held }) (record { systems = after.systems; held = held_after })

-- an answer tells that memory or a thread was wanting
abbrev pub IsWanting : {A : Type 0} → Result A DispatchError → Type 0
IsWanting (Ok a) = ⊥
IsWanting (Err (System id stop)) = ⊥
IsWanting (Err (Local place stop)) = ⊥
IsWanting (Err Memory) = Unit {0}
IsWanting (Err Threads) = Unit {0}
