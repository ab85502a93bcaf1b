-- Batches: stages of their own, run as often as a controller plans.
use Rattle.std.specs.Prelude.{◌≡◌, ℕ, zero, suc, Bool, false, Option, None, Some, List, ◌++◌}
use Rattle.std.specs.Option.{MatchOption, option_map}
use Rattle.shred_world.specs.declared.resource_id.ResourceId.{ResourceId}
use Rattle.shred_world.specs.Worlds.{Slots}
use Rattle.shred_world.specs.Bundles.{Holding}
use Rattle.shred_plan.specs.Plan.{Stage}
use Rattle.shred_stages.specs.declared.stop.Stop.{Stop}
use Rattle.shred_stages.specs.Accesses.{all_reads, all_writes}
use Rattle.shred_stages.specs.Runs.{State, StagesRun}
use Rattle.shred_stages.specs.Setups.{WhenAccepted, SetsUpEach, DisposesEach}
use Rattle.shred_stages.specs.Staging.{Staging}
use Rattle.shred.specs.Building.{Declared}

-- a controller, and the stages that it has
pub record Batched (S C : Type 0) : Type 0 where
  pub controller : C
  pub staging : Staging S

-- the stages run a number of times, up to the first time in which a system refuses
abbrev pub TimesRun : {V S : Type 0} → (S → Holding V → Option Stop → S → Holding V → Type 0) → (times : ℕ) → List (Stage ResourceId) → State V S → Option (ℕ × Stop) → State V S → Type 0
TimesRun meets zero stages before refused after = (refused ≡ None) × (after ≡ before)
TimesRun {V} {S} meets (suc times) stages before refused after =
    (between : State V S) × (stop : Option (ℕ × Stop)) × StagesRun meets stages before stop between
    × MatchOption stop (TimesRun meets times stages between refused after) (λ why. (refused ≡ Some why) × (after ≡ between))

-- a controller plans how often its stages run, and they do; a system's refusal is the batch's
pub record RunsAsPlanned {V S C : Type 0} (plans : C → Holding V → ℕ → C → Holding V → Type 0) (meets : S → Holding V → Option Stop → S → Holding V → Type 0)
    (controller : C) (staging : Staging S) (w : Holding V) (refused : Option Stop) (controller_after : C) (staging_after : Staging S) (w_after : Holding V) : Type 0 where
  pub times : ℕ
  pub planned : Holding V
  pub first : Option (ℕ × Stop)
  pub as_planned : plans controller w times controller_after planned
  pub runs : TimesRun meets times staging.planning.stages (record { systems = staging.systems; held = planned }) first (record { systems = staging_after.systems; held = w_after })
  pub told : refused ≡ option_map (λ why. why.1) first

-- a batch is set up: the controller, and then each of its systems
abbrev pub BatchSetsUp : {V S C : Type 0} → (C → Bool → Slots V → C → Slots V → Type 0) → (S → Bool → Slots V → S → Slots V → Type 0)
    → Batched S C → Bool → Slots V → Batched S C → Slots V → Type 0
BatchSetsUp {V} {S} controller_sets_up sets_up before accepted w after w_after =
    (first : Bool) × (between : Slots V) × controller_sets_up before.controller first w after.controller between × (after.staging.planning ≡ before.staging.planning)
    × WhenAccepted first (SetsUpEach sets_up before.staging.systems accepted between after.staging.systems w_after) ((accepted ≡ false) × (after.staging ≡ before.staging) × (w_after ≡ between))

-- a batch is let go: each of its systems is
abbrev pub BatchDisposes : {V S C : Type 0} → (S → Option Stop → Slots V → Slots V → Type 0) → Batched S C → Option Stop → Slots V → Slots V → Type 0
BatchDisposes disposes batch refused w w_after =
    (first : Option (ℕ × Stop)) × DisposesEach disposes 0 batch.staging.systems first w w_after × (refused ≡ option_map (λ why. why.1) first)

-- what a batch declares, by what its stages do and what its controller says of itself
abbrev pub batch_declares : {S : Type 0} → Staging S → (reads writes : List ResourceId) → (time : ℕ) → Declared
batch_declares stages reads writes time = record {
  reads = all_reads stages.planning.stages ++ reads;
  writes = all_writes stages.planning.stages ++ (reads ++ writes);
  time = time;
}
