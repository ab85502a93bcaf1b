-- How runs on threads end.
use Rattle.std.proofs.Common.{◌≡◌, ℕ, List, sym, subst, Option, Some, None, Result, Ok, Err}
use Rattle.std.specs.Prelude.{IfNone, IfSome}
use Rattle.shred_world.specs.declared.resource_id.ResourceId.{ResourceId}
use Rattle.shred_world.specs.Worlds.{Slots}
use Rattle.shred_world.specs.Bundles.{Holding, holding_of}
use Rattle.shred_plan.specs.Plan.{Stage}
use Rattle.shred_stages.specs.declared.stop.Stop.{Stop}
use Rattle.shred_stages.specs.declared.error.DispatchError.{DispatchError}
use Rattle.shred_stages.specs.declared.error.DispatchError.TheVariants.{System, Local, Memory, Threads}
use Rattle.shred_stages.specs.Views.{Leaves}
use Rattle.shred_stages.specs.Runs.{State, StagesRun}
use Rattle.shred_stages.specs.Staging.{Tells}
use Rattle.shred_stages.specs.declared.turn.Staged.{Staged}
use Rattle.shred_stages.specs.Seats.{state_of}
use Rattle.shred_stages.specs.Touring.{Touring}
use Rattle.shred_stages.specs.Ends.{EndsAs, IsWanting}
use Rattle.shred_stages.proofs.LeaveLemmas.{same-held, stages-leave}

module _ {V S : Type 0} (meets : S → Holding V → Option Stop → S → Holding V → Type 0) where
  -- the same ids have values
  pub ends-leave : {A : Type 0} (stages : List (Stage ResourceId)) (before after : State V S) (result : Result A DispatchError) → EndsAs meets stages before result after → Leaves before.held after.held
  ends-leave stages before after (Ok a) ends = stages-leave meets stages before None after ends
  ends-leave stages before after (Err (System id stop)) ends = stages-leave meets stages before (Some (id.0, stop)) after ends
  ends-leave stages before after (Err (Local place stop)) ends = absurd ends
  ends-leave stages before after (Err Memory) same = same-held meets before after same
  ends-leave stages before after (Err Threads) same = same-held meets before after same

  -- the answer of a run for which nothing was wanting, or of none
  pub ends-tour : {A B : Type 0} (want : Option B) (stages : List (Stage ResourceId)) (before after : State V S) (refused : Option (ℕ × Stop)) (result : Result A DispatchError)
      → IfNone want (Tells result refused) → IfSome want (λ _. IsWanting result) → IfNone want (StagesRun meets stages before refused after) → IfSome want (λ _. after ≡ before) → EndsAs meets stages before result after
  ends-tour None stages before after refused (Ok a) tells wanting ran still = let P : Option (ℕ × Stop) → Type 0 = λ r. StagesRun meets stages before r after in subst P tells ran
  ends-tour None stages before after refused (Err (System id stop)) tells wanting ran still = let P : Option (ℕ × Stop) → Type 0 = λ r. StagesRun meets stages before r after in subst P tells ran
  ends-tour None stages before after refused (Err (Local place stop)) tells wanting ran still = absurd tells
  ends-tour None stages before after refused (Err Memory) tells wanting ran still = absurd tells
  ends-tour None stages before after refused (Err Threads) tells wanting ran still = absurd tells
  ends-tour (Some why) stages before after refused (Ok a) tells wanting ran still = absurd wanting
  ends-tour (Some why) stages before after refused (Err (System id stop)) tells wanting ran still = absurd wanting
  ends-tour (Some why) stages before after refused (Err (Local place stop)) tells wanting ran still = absurd wanting
  ends-tour (Some why) stages before after refused (Err Memory) tells wanting ran still = still
  ends-tour (Some why) stages before after refused (Err Threads) tells wanting ran still = still

  -- how a tour ends is how the run of its stages does
  pub tour-ends : {A B : Type 0} (want : Option B) (before after : Touring V S) (stages : List (Stage ResourceId)) (staged staged2 : List (Staged V S)) (w w2 : Slots V) (refused : Option (ℕ × Stop)) (result : Result A DispatchError)
      → before ≡ record { stages = stages; staged = staged; world = w; refused = None } → IfNone want (Tells result refused) → IfSome want (λ _. IsWanting result)
      → IfNone want (StagesRun meets before.stages (state_of before.staged (holding_of before.world)) after.refused (state_of after.staged (holding_of after.world)))
      → IfSome want (λ _. state_of after.staged (holding_of after.world) ≡ state_of before.staged (holding_of before.world))
      → w2 ≡ after.world → staged2 ≡ after.staged → refused ≡ after.refused → EndsAs meets stages (state_of staged (holding_of w)) result (state_of staged2 (holding_of w2))
  tour-ends want before after stages staged staged2 w w2 refused result is tells wanting ran still world-is staged-is refused-is =
      let told = subst (λ r. IfNone want (Tells result r)) refused-is tells in
      let ends = ends-tour want before.stages (state_of before.staged (holding_of before.world)) (state_of after.staged (holding_of after.world)) after.refused result told wanting ran still in
      let P : Touring V S → Type 0 = λ t. EndsAs meets t.stages (state_of t.staged (holding_of t.world)) result (state_of after.staged (holding_of after.world)) in
      let Q : List (Staged V S) → Slots V → Type 0 = λ list h. EndsAs meets stages (state_of staged (holding_of w)) result (state_of list (holding_of h)) in
      subst (λ h. Q staged2 h) (sym world-is) (subst (λ list. Q list after.world) (sym staged-is) (subst P is ends))
