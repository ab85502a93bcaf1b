-- The systems that are staged, each with its seat.
use Rattle.std.specs.Prelude.{◌≡◌, ℕ, suc, ◌≤◌, Bool, length, List, [], ◌∷◌, map, Option, Some, None, Result, Ok, Err, slice_get}
use Rattle.std.specs.List.{All, fold}
use Rattle.std.specs.Option.{MatchOption}
use Rattle.shred_world.specs.declared.resource_id.ResourceId.{ResourceId}
use Rattle.shred_world.specs.Bundles.{Holding}
use Rattle.shred_plan.specs.Plan.{Placing, Group, Stage, Planning, Added, added}
use Rattle.shred_plan.specs.Laws.{systems_added}
use Rattle.shred_stages.specs.declared.stop.Stop.{Stop}
use Rattle.shred_stages.specs.declared.turn.Staged.{Staged}
use Rattle.shred_stages.specs.declared.run.Refusal.{Refusal}
use Rattle.shred_stages.specs.Moves.{IsSeat}
use Rattle.shred_stages.specs.Runs.{State}

-- the systems by number
abbrev pub systems_of : {V S : Type 0} → List (Staged V S) → List S
systems_of staged = map (λ one. one.system) staged

-- the systems by number, and what is held
abbrev pub state_of : {V S : Type 0} → List (Staged V S) → Holding V → State V S
state_of staged w = record { systems = systems_of staged; held = w }

-- which system refused, and why
abbrev pub refusal_of : {A : Type 0} → Result A Refusal → Option (ℕ × Stop)
refusal_of (Ok a) = None
refusal_of (Err refusal) = Some (refusal.system.0, refusal.stop)

abbrev pub stop_of : {A : Type 0} → Result A Refusal → Option Stop
stop_of (Ok a) = None
stop_of (Err refusal) = Some refusal.stop

-- the system of a placing is there, and has a seat for what it writes
abbrev pub IsSeated : {V S : Type 0} → List (Staged V S) → Placing ResourceId → Type 0
IsSeated staged one = MatchOption (slice_get staged one.number) ⊥ (λ there. IsSeat one.writes there.seat)

-- so it is of all systems of a group, a stage and some stages
abbrev pub AreSeated : {V S : Type 0} → Group ResourceId → List (Staged V S) → Type 0
AreSeated group staged = All (IsSeated staged) group

abbrev pub StageIsSeated : {V S : Type 0} → Stage ResourceId → List (Staged V S) → Type 0
StageIsSeated stage staged = All (λ group. AreSeated group staged) stage

abbrev pub StagesAreSeated : {V S : Type 0} → List (Stage ResourceId) → List (Staged V S) → Type 0
StagesAreSeated stages staged = All (λ stage. StageIsSeated stage staged) stages

-- each system has the seat that it had
abbrev pub SeatsKept : {V S : Type 0} → (before after : List (Staged V S)) → Type 0
SeatsKept before after = (one : Placing ResourceId) → IsSeated before one → IsSeated after one

-- systems are numbered one after the other, from a number on
abbrev pub AreNumbered : ℕ → List (Placing ResourceId) → Type 0
AreNumbered from [] = Unit {0}
AreNumbered from (one ∷ others) = (one.number ≡ from) × AreNumbered (suc from) others

-- a plan is that of so many systems, numbered from 0 in the order in which they were added
pub record IsPlanned (same : ResourceId → ResourceId → Bool) (planning : Planning ResourceId) (count : ℕ) : Type 0 where
  pub list : List (Added ResourceId)
  pub planned : planning ≡ fold (added same) (record { first = 0; stages = [] }) list
  pub numbered : AreNumbered 0 (systems_added list)
  pub counted : length (systems_added list) ≡ count

-- the systems that were planned have their seats, and there are no more than may be staged
pub record IsStaged {V S : Type 0} (same : ResourceId → ResourceId → Bool) (planning : Planning ResourceId) (staged : List (Staged V S)) : Type 0 where
  pub planned : IsPlanned same planning (length staged)
  pub seated : StagesAreSeated planning.stages staged
  pub few : length staged ≤ 65536
