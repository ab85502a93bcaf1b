-- What a dispatcher holds, and what a dispatch does.
use Rattle.std.specs.Prelude.{◌≡◌, ◌<◌, ℕ, Bool, false, Option, None, Some, List, Result, Ok, Err}
use Rattle.shred_world.specs.Worlds.{Slots}
use Rattle.shred_world.specs.Bundles.{Holding}
use Rattle.shred_stages.specs.declared.stop.Stop.{Stop}
use Rattle.shred_stages.specs.declared.stop.Stop.TheVariants as stop
use Rattle.shred.specs.declared.locals.LocalRefusal.{LocalRefusal}
use Rattle.shred_stages.specs.declared.error.DispatchError.{DispatchError}
use Rattle.shred_stages.specs.declared.error.DispatchError.TheVariants.{System, Local, Memory, Threads}
use Rattle.shred_stages.specs.Staging.{Staging, Runs}
use Rattle.shred_plan.specs.Plan.{plan_order}
use Rattle.shred_stages.specs.Ends.{RunsApart}
use Rattle.shred_stages.specs.Orders.{RunsUpToOrder}
use Rattle.shred.specs.Locals.{LocalsRun}
use Rattle.shred_stages.specs.Setups.{WhenAccepted, SetsUpEach, DisposesEach}

-- the systems that are staged, the local ones, and how many workers run a stage
pub record Dispatching (S L : Type 0) : Type 0 where
  pub staging : Staging S
  pub locals : List L
  pub workers : ℕ

-- which local system refused, and why
abbrev pub local_refusal : {A : Type 0} → Result A LocalRefusal → Option (ℕ × Stop)
local_refusal (Ok a) = None
local_refusal (Err refusal) = Some (refusal.place, refusal.stop)

abbrev pub local_stop : {A : Type 0} → Result A LocalRefusal → Option Stop
local_stop (Ok a) = None
local_stop (Err refusal) = Some refusal.stop

-- an answer tells which local system refused, and why
abbrev pub TellsLocal : {A : Type 0} → Result A DispatchError → Option (ℕ × Stop) → Type 0
TellsLocal (Ok a) refused = refused ≡ None
TellsLocal (Err (System id stop)) refused = ⊥
TellsLocal (Err (Local place stop)) refused = refused ≡ Some (place, stop)
TellsLocal (Err Memory) refused = ⊥
TellsLocal (Err Threads) refused = ⊥

module _ {V S L A : Type 0} (meets : S → Holding V → Option Stop → S → Holding V → Type 0) (local_meets : L → Holding V → Option Stop → L → Holding V → Type 0) where
  -- the staged systems run: a chain of their relations in the order of the plan; plan, local systems and workers stay
  pub record DispatchesStaged (before : Dispatching S L) (w : Holding V) (result : Result A DispatchError) (after : Dispatching S L) (w_after : Holding V) : Type 0 where
    pub runs : Runs meets before.staging w result after.staging w_after
    pub plan : after.staging.planning ≡ before.staging.planning
    pub locals : after.locals ≡ before.locals
    pub workers : after.workers ≡ before.workers

  -- the local systems run, in the order in which they were added; the staged ones and the workers stay
  pub record DispatchesLocals (before : Dispatching S L) (w : Holding V) (result : Result A DispatchError) (after : Dispatching S L) (w_after : Holding V) : Type 0 where
    pub refused : Option (ℕ × Stop)
    pub told : TellsLocal result refused
    pub runs : LocalsRun local_meets 0 before.locals w refused after.locals w_after
    pub staging : after.staging ≡ before.staging
    pub workers : after.workers ≡ before.workers

  -- where the staged systems weren't refused, the local ones run after them
  abbrev pub ThenLocals : Dispatching S L → Holding V → (staged : Result A DispatchError) → Result A DispatchError → Dispatching S L → Holding V → Type 0
  ThenLocals before w (Ok a) result after w_after = DispatchesLocals before w result after w_after
  ThenLocals before w (Err error) result after w_after = (result ≡ Err error) × (after ≡ before) × (w_after ≡ w)

  -- the staged systems run, and then the local ones
  pub record Dispatches (before : Dispatching S L) (w : Holding V) (result : Result A DispatchError) (after : Dispatching S L) (w_after : Holding V) : Type 0 where
    pub between : Dispatching S L
    pub w_between : Holding V
    pub staged_result : Result A DispatchError
    pub staged : DispatchesStaged before w staged_result between w_between
    pub then_locals : ThenLocals between w_between staged_result result after w_after

  -- the staged systems run on threads: as on one thread, or, for want of memory or of a thread, not at all; with less than 2 workers as on one
  pub record DispatchesOnThreads (before : Dispatching S L) (w : Holding V) (result : Result A DispatchError) (after : Dispatching S L) (w_after : Holding V) : Type 0 where
    pub runs : RunsApart meets before.staging w result after.staging w_after
    pub alone : before.workers < 2 → Runs meets before.staging w result after.staging w_after
    pub plan : after.staging.planning ≡ before.staging.planning
    pub locals : after.locals ≡ before.locals
    pub workers : after.workers ≡ before.workers

  -- so they do, and then the local ones run
  pub record DispatchesAll (before : Dispatching S L) (w : Holding V) (result : Result A DispatchError) (after : Dispatching S L) (w_after : Holding V) : Type 0 where
    pub between : Dispatching S L
    pub w_between : Holding V
    pub staged_result : Result A DispatchError
    pub staged : DispatchesOnThreads before w staged_result between w_between
    pub then_locals : ThenLocals between w_between staged_result result after w_after

module _ {V S L : Type 0} (meets : S → Holding V → Option Stop → S → Holding V → Type 0) (local_meets : L → Holding V → Option Stop → L → Holding V → Type 0) where
  -- no staged system refuses: they take steps, which come to the same in any order, and the local ones run over what those leave
  pub record StepsThenLocals (before : Dispatching S L) (w : Holding V) (refused : Option (ℕ × Stop)) (after : Dispatching S L) (w_after : Holding V) : Type 0 where
    pub w_between : Holding V
    pub steps : RunsUpToOrder meets (plan_order before.staging.planning.stages) (record { systems = before.staging.systems; held = w }) (record { systems = after.staging.systems; held = w_between })
    pub locals : LocalsRun local_meets 0 before.locals w_between refused after.locals w_after

  -- so it is where a dispatch is accepted, and where a local system refuses
  abbrev pub DispatchesInAnyOrder : {A : Type 0} → Dispatching S L → Holding V → Result A DispatchError → Dispatching S L → Holding V → Type 0
  DispatchesInAnyOrder before w (Ok a) after w_after = StepsThenLocals before w None after w_after
  DispatchesInAnyOrder before w (Err (System id stop)) after w_after = Unit {0}
  DispatchesInAnyOrder before w (Err (Local place stop)) after w_after = StepsThenLocals before w (Some (place, stop)) after w_after
  DispatchesInAnyOrder before w (Err Memory) after w_after = Unit {0}
  DispatchesInAnyOrder before w (Err Threads) after w_after = Unit {0}

-- the staged systems are set up, and then the local ones, up to the first that is refused; the plan and the workers stay
abbrev pub DispatcherSetsUp : {V S L : Type 0} → (S → Bool → Slots V → S → Slots V → Type 0) → (L → Bool → Slots V → L → Slots V → Type 0)
    → Dispatching S L → Bool → Slots V → Dispatching S L → Slots V → Type 0
DispatcherSetsUp {V} sets_up local_sets_up before accepted w after w_after =
    (first : Bool) × (between : Slots V) × SetsUpEach sets_up before.staging.systems first w after.staging.systems between
    × (after.staging.planning ≡ before.staging.planning) × (after.workers ≡ before.workers)
    × WhenAccepted first (SetsUpEach local_sets_up before.locals accepted between after.locals w_after) ((accepted ≡ false) × (after.locals ≡ before.locals) × (w_after ≡ between))

-- an answer tells the first refusal: of a staged system, else of a local one
abbrev pub TellsFirst : {A : Type 0} → Result A DispatchError → (staged local : Option (ℕ × Stop)) → Type 0
TellsFirst (Ok a) staged local = (staged ≡ None) × (local ≡ None)
TellsFirst (Err (System id stop)) staged local = staged ≡ Some (id.0, stop)
TellsFirst (Err (Local place stop)) staged local = (staged ≡ None) × (local ≡ Some (place, stop))
TellsFirst (Err Memory) staged local = ⊥
TellsFirst (Err Threads) staged local = ⊥

-- all systems are let go, the staged ones and then the local ones, and the answer tells the first refusal
abbrev pub DispatcherDisposes : {V S L A : Type 0} → (S → Option Stop → Slots V → Slots V → Type 0) → (L → Option Stop → Slots V → Slots V → Type 0)
    → Dispatching S L → Result A DispatchError → Slots V → Slots V → Type 0
DispatcherDisposes {V} disposes local_disposes dispatcher result w w_after =
    (staged local : Option (ℕ × Stop)) × (between : Slots V) × DisposesEach disposes 0 dispatcher.staging.systems staged w between
    × DisposesEach local_disposes 0 dispatcher.locals local between w_after × TellsFirst result staged local

-- why a dispatch ended early, as a system's refusal
abbrev pub stop_in : DispatchError → Stop
stop_in (System id stop) = stop
stop_in (Local place stop) = stop
stop_in Memory = stop.Memory
stop_in Threads = stop.Memory

abbrev pub stop_told : {A : Type 0} → Result A DispatchError → Option Stop
stop_told (Ok a) = None
stop_told (Err error) = Some (stop_in error)

-- a dispatch as the run of a local system
abbrev pub MeetsAsLocal : {V S L : Type 0} → (S → Holding V → Option Stop → S → Holding V → Type 0) → (L → Holding V → Option Stop → L → Holding V → Type 0)
    → Dispatching S L → Holding V → Option Stop → Dispatching S L → Holding V → Type 0
MeetsAsLocal meets local_meets before w refused after w_after =
    (result : Result (Unit {0}) DispatchError) × Dispatches meets local_meets before w result after w_after × (refused ≡ stop_told result)

-- the first refusal of letting a dispatcher go, as that of a local system
abbrev pub DisposesAsLocal : {V S L : Type 0} → (S → Option Stop → Slots V → Slots V → Type 0) → (L → Option Stop → Slots V → Slots V → Type 0)
    → Dispatching S L → Option Stop → Slots V → Slots V → Type 0
DisposesAsLocal disposes local_disposes dispatcher refused w w_after =
    (result : Result (Unit {0}) DispatchError) × DispatcherDisposes disposes local_disposes dispatcher result w w_after × (refused ≡ stop_told result)
