-- What systems did to what they were lent, told of what is held; and turns along a list.
use Rattle.std.proofs.Common.{◌≡◌, ℕ, Bool, true, false, List, [], ◌∷◌, refl, ap, sym, ◌∙◌, subst, Option, Some, None}
use Rattle.std.specs.Prelude.{slice_get, slice_set, if◌then◌else◌}
use Rattle.std.specs.Option.{MatchOption}
use Rattle.std.proofs.Math.Path.{fun_ext}
use Rattle.shred_world.specs.declared.resource_id.ResourceId.{ResourceId}
use Rattle.shred_world.specs.ResourceIds.{same_id}
use Rattle.shred_world.specs.Bundles.{Slot, absent, out, shared, owned, Holding, readable, takable, is_listed}
use Rattle.shred_plan.specs.Plan.{Placing, Stage, plan_order}
use Rattle.shred_stages.specs.declared.stop.Stop.{Stop}
use Rattle.shred_stages.specs.Views.{cut, merged, owned_of, shared_of}
use Rattle.shred_stages.specs.Changes.{with_values}
use Rattle.shred_stages.specs.Runs.{Step, State, Turn, GroupRuns, StagesRun}
use Rattle.shred_stages.specs.Orders.{SameUpToOrder, RunsUpToOrder, ListRuns, TakeTurns}
use Rattle.shred_stages.proofs.ListLemmas.{stages-list}
use Rattle.shred_stages.proofs.StepLemmas.{list-of-steps}

-- what a system is lent

owned-back : {V : Type 0} (slot : Slot V) (v : V) → owned_of (takable slot) ≡ owned v → slot ≡ owned v
owned-back absent v e = cc
owned-back out v e = cc
owned-back (shared x) v e = cc
owned-back (owned x) v e = e

read-back : {V : Type 0} (there : Option V) → readable (shared_of there) ≡ there
read-back None = refl
read-back (Some v) = refl

module _ {V : Type 0} (reads writes : List ResourceId) (w : Holding V) (id : ResourceId) where
  -- a value that it may take out is held,
  pub lent-owned : is_listed writes id ≡ true → (v : V) → cut reads writes w id ≡ owned v → w id ≡ owned v
  lent-owned written v lent = owned-back (w id) v (sym (ap (λ b. if b then owned_of (takable (w id)) else (if is_listed reads id then shared_of (readable (w id)) else absent)) written) ∙ lent)

  -- and of what it reads alone it sees what is held
  pub lent-read : is_listed writes id ≡ false → is_listed reads id ≡ true → readable (cut reads writes w id) ≡ readable (w id)
  lent-read unwritten read =
      ap (λ b. readable (if b then owned_of (takable (w id)) else (if is_listed reads id then shared_of (readable (w id)) else absent))) unwritten
      ∙ (ap (λ b. readable (if b then shared_of (readable (w id)) else absent)) read ∙ read-back (readable (w id)))

-- what a system left as it was lent is as it was
pub lent-back : {V : Type 0} (written read : Bool) (slot : Slot V) → merged (if written then owned_of (takable slot) else (if read then shared_of (readable slot) else absent)) slot ≡ slot
lent-back true read absent = refl
lent-back true read out = refl
lent-back true read (shared v) = refl
lent-back true read (owned v) = refl
lent-back false true absent = refl
lent-back false true out = refl
lent-back false true (shared v) = refl
lent-back false true (owned v) = refl
lent-back false false slot = refl

module _ {V : Type 0} (reads writes : List ResourceId) (w : Holding V) (id : ResourceId) where
  changed-back : (changes : List (ResourceId × V)) → merged (with_values changes (cut reads writes w) id) (w id) ≡ with_values changes w id
  changed-back [] = lent-back (is_listed writes id) (is_listed reads id) (w id)
  changed-back (change ∷ earlier) = by (same_id id change.0) (changed-back earlier)
    where
      by : (b : Bool) → merged (with_values earlier (cut reads writes w) id) (w id) ≡ with_values earlier w id
          → merged (if b then owned change.1 else with_values earlier (cut reads writes w) id) (w id) ≡ (if b then owned change.1 else with_values earlier w id)
      by true rest = refl
      by false rest = rest

module _ {V S : Type 0} (meets : S → Holding V → Option Stop → S → Holding V → Type 0) where
  -- a system that put other values at some ids of what it was lent put them into what is held
  pub step-lifted : (reads writes : List ResourceId) (system system_after : S) (w w_after : Holding V) (refused : Option Stop) (step : Step meets reads writes system w refused system_after w_after)
      → (changes : List (ResourceId × V)) → step.after ≡ with_values changes (cut reads writes w) → w_after ≡ with_values changes w
  step-lifted reads writes system system_after w w_after refused step changes left =
      fun_ext (λ id. step.comes_back id ∙ (ap (λ h. merged (h id) (w id)) left ∙ changed-back reads writes w id changes))

  -- the system that takes a turn
  pub record TurnOf (one : Placing ResourceId) (before : State V S) (refused : Option Stop) (after : State V S) : Type 0 where
    pub system : S
    pub left : S
    pub there : slice_get before.systems one.number ≡ Some system
    pub put : after.systems ≡ slice_set before.systems one.number left
    pub step : Step meets one.reads one.writes system before.held refused left after.held

  pub turn-of : (one : Placing ResourceId) (before after : State V S) (refused : Option Stop) → Turn meets one before refused after → TurnOf one before refused after
  turn-of one before after refused (left, step, put) = by (slice_get before.systems one.number) refl step
    where
      by : (there : Option S) → slice_get before.systems one.number ≡ there → MatchOption there ⊥ (λ system. Step meets one.reads one.writes system before.held refused left after.held) → TurnOf one before refused after
      by None is none = absurd none
      by (Some system) is step = record { system = system; left = left; there = is; put = put; step = step }

  -- a run along a list in which none refuses is the turns of its systems
  pub list-turns : (list : List (Placing ResourceId)) (before after : State V S) (refused : Option (ℕ × Stop)) → refused ≡ None → ListRuns meets list before refused after → TakeTurns meets list before after
  list-turns [] before after refused none (_, same) = same
  list-turns (one ∷ list) before after refused none (between, stop, turn, run) = by stop turn run (list-turns list between after refused none)
    where
      by : (stop : Option Stop) → Turn meets one before stop between → MatchOption stop (GroupRuns meets list between refused after) (λ why. (refused ≡ Some (one.number, why)) × (after ≡ between))
          → (ListRuns meets list between refused after → TakeTurns meets list between after) → TakeTurns meets (one ∷ list) before after
      by None turn run later = (between, turn, later run)
      by (Some why) turn (told, same) later = let e = sym told ∙ none in cc

  -- stages in which none refuses are the turns of their systems in the order of the plan
  pub stages-turns : (stages : List (Stage ResourceId)) (before after : State V S) → StagesRun meets stages before None after → TakeTurns meets (plan_order stages) before after
  stages-turns stages before after runs = list-turns (plan_order stages) before after None refl (stages-list meets stages before after runs)

  -- a plan of one system is its turn
  pub plan-turn : (one : Placing ResourceId) (before after : State V S) → StagesRun meets (((one ∷ []) ∷ []) ∷ []) before None after → Turn meets one before None after
  plan-turn one before after runs =
      let turns = stages-turns (((one ∷ []) ∷ []) ∷ []) before after runs in
      let P : State V S → Type 0 = λ state. Turn meets one before None state in
      subst P (sym turns.2) turns.1

  -- where steps come to the same in any order, the systems take their turns along the list,
  pub turns-in-order : (order : List (Placing ResourceId)) (before after : State V S) → RunsUpToOrder meets order before after → TakeTurns meets order before after
  turns-in-order order before after (steps, taken, run, _) =
      let P : List (Placing ResourceId) → Type 0 = λ list. TakeTurns meets list before after in
      subst P taken (list-turns _ before after None refl (list-of-steps meets steps before after run))

  -- and along each that is the same up to order
  pub turns-in-any-order : (order list : List (Placing ResourceId)) (before after : State V S) → RunsUpToOrder meets order before after → SameUpToOrder same_id order list → TakeTurns meets list before after
  turns-in-any-order order list before after (steps, taken, _, any) same =
      let P : List (Placing ResourceId) → Type 0 = λ order. SameUpToOrder same_id order list in
      let Q : List (Placing ResourceId) → Type 0 = λ list. TakeTurns meets list before after in
      let other = any list (subst P (sym taken) same) in
      subst Q other.2 (list-turns _ before after None refl (list-of-steps meets other.0 before after other.3))
