-- A run of systems among which there is no batch, as a run of the systems.
use Rattle.std.proofs.Common.{◌≡◌, ℕ, zero, suc, List, [], ◌∷◌, ◌++◌, length, map, Option, Some, None, refl, ap, sym, ◌∙◌, subst}
use Rattle.std.specs.Prelude.{slice_get, slice_set}
use Rattle.std.specs.Option.{MatchOption}
use Rattle.shred_world.specs.declared.resource_id.ResourceId.{ResourceId}
use Rattle.shred_world.specs.Bundles.{Holding}
use Rattle.shred_plan.specs.Plan.{Placing, Stage}
use Rattle.shred_stages.specs.declared.stop.Stop.{Stop}
use Rattle.shred_stages.specs.Runs.{Step, State, Turn, StagesRun}
use Rattle.shred.specs.declared.work.Work.{Work}
use Rattle.shred.specs.declared.work.Work.TheVariants.{System, Batch}
use Rattle.shred.specs.Works.{WorkMeets}
use Rattle.scene_model.specs.Scenes.{PlainSystem}
use Rattle.scene_dispatch.specs.Works.{systems_in, HasNoBatch}
use Rattle.scene_dispatch.proofs.PlaceLemmas.{get-front, set-front, map-unseen}
use Rattle.scene_dispatch.proofs.AlikeLemmas.{Also, plan-alike}

-- what stands at a number is a system, and the one of that number
system-at : {P B : Type 0} (works : List (Work P B)) (n : ℕ) (work : Work P B) → HasNoBatch works → slice_get works n ≡ Some work → (system : P) × (work ≡ System system) × (slice_get (systems_in works) n ≡ Some system)
system-at [] n work none is = cc
system-at (System system ∷ works) zero work none is = (system, cc, refl)
system-at (System system ∷ works) (suc n) work none is = system-at works n work none is
system-at (Batch batch ∷ works) n work none is = absurd none

-- one of them is replaced by a system
set-system : {P B : Type 0} (works : List (Work P B)) (n : ℕ) (system : P) → HasNoBatch works
    → HasNoBatch (slice_set works n (System system)) × (systems_in (slice_set works n (System system)) ≡ slice_set (systems_in works) n system)
set-system [] n system none = (tt, refl)
set-system (System first ∷ works) zero system none = (none, refl)
set-system (System first ∷ works) (suc n) system none = let later = set-system works n system none in (later.0, ap (λ l. first ∷ l) later.1)
set-system (Batch batch ∷ works) n system none = absurd none

-- so many systems there are
pub length-systems : {P B : Type 0} (works : List (Work P B)) → HasNoBatch works → length (systems_in works) ≡ length works
length-systems [] none = refl
length-systems (System system ∷ works) none = ap suc (length-systems works none)
length-systems (Batch batch ∷ works) none = absurd none

-- one more
pub more-systems : {P B : Type 0} (works : List (Work P B)) (system : P) → HasNoBatch works
    → HasNoBatch (works ++ System system ∷ []) × (systems_in (works ++ System system ∷ []) ≡ systems_in works ++ system ∷ [])
more-systems [] system none = (tt, refl)
more-systems (System first ∷ works) system none = let later = more-systems works system none in (later.0, ap (λ l. first ∷ l) later.1)
more-systems (Batch batch ∷ works) system none = absurd none

module _ {V P B : Type 0} (meets : P → Holding V → Option Stop → P → Holding V → Type 0) (batch_meets : B → Holding V → Option Stop → B → Holding V → Type 0)
    (plain : P → PlainSystem) (stays : (system left : P) (seen after : Holding V) (refused : Option Stop) → meets system seen refused left after → plain left ≡ plain system)
    (others : List P) (plains : List PlainSystem) where
  -- the same systems, with others behind them, which are what they were; and the same is held
  pub record IsSeen (state : State V (Work P B)) (seen : State V P) : Type 0 where
    pub no_batch : HasNoBatch state.systems
    pub systems : seen.systems ≡ systems_in state.systems ++ others
    pub held : seen.held ≡ state.held
    pub same : map plain (systems_in state.systems) ≡ plains

  turn-seen : (one : Placing ResourceId) (before after : State V (Work P B)) (seen : State V P) (refused : Option Stop) → IsSeen before seen → Turn (WorkMeets meets batch_meets) one before refused after
      → Also (WorkMeets meets batch_meets) meets IsSeen (Turn meets one seen refused) after
  turn-seen one before after seen refused is (left, step, put) = by (slice_get before.systems one.number) refl step
    where
      of-system : (system : P) → slice_get (systems_in before.systems) one.number ≡ Some system → Step (WorkMeets meets batch_meets) one.reads one.writes (System system) before.held refused left after.held
          → Also (WorkMeets meets batch_meets) meets IsSeen (Turn meets one seen refused) after
      of-system system there step = (
        record { systems = systems_in after.systems ++ others; held = after.held },
        (step.runs.0, stepped, replaced),
        record {
          no_batch = subst HasNoBatch (sym put_there) kept.0;
          systems = refl;
          held = refl;
          same = ap (λ l. map plain (systems_in l)) put_there ∙ ap (map plain) kept.1 ∙ map-unseen plain (systems_in before.systems) one.number system step.runs.0 there (stays system step.runs.0 _ step.after refused step.runs.2) ∙ is.same;
        },
      )
        where
          put_there : after.systems ≡ slice_set before.systems one.number (System step.runs.0)
          put_there = put ∙ ap (slice_set before.systems one.number) step.runs.1

          kept : HasNoBatch (slice_set before.systems one.number (System step.runs.0)) × (systems_in (slice_set before.systems one.number (System step.runs.0)) ≡ slice_set (systems_in before.systems) one.number step.runs.0)
          kept = set-system before.systems one.number step.runs.0 is.no_batch

          here : slice_get seen.systems one.number ≡ Some system
          here = ap (λ l. slice_get l one.number) is.systems ∙ get-front (systems_in before.systems) others one.number system there

          stepped : MatchOption (slice_get seen.systems one.number) ⊥ (λ system. Step meets one.reads one.writes system seen.held refused step.runs.0 after.held)
          stepped = subst (λ o. MatchOption o ⊥ (λ system. Step meets one.reads one.writes system seen.held refused step.runs.0 after.held)) (sym here)
              (subst (λ w. Step meets one.reads one.writes system w refused step.runs.0 after.held) (sym is.held)
              (record { after = step.after; runs = step.runs.2; leaves = step.leaves; comes_back = step.comes_back }))

          replaced : systems_in after.systems ++ others ≡ slice_set seen.systems one.number step.runs.0
          replaced = ap (λ l. systems_in l ++ others) put_there ∙ ap (λ l. l ++ others) kept.1
              ∙ sym (set-front (systems_in before.systems) others one.number system step.runs.0 there) ∙ ap (λ l. slice_set l one.number step.runs.0) (sym is.systems)

      by : (there : Option (Work P B)) → slice_get before.systems one.number ≡ there
          → MatchOption there ⊥ (λ work. Step (WorkMeets meets batch_meets) one.reads one.writes work before.held refused left after.held) → Also (WorkMeets meets batch_meets) meets IsSeen (Turn meets one seen refused) after
      by None there step = absurd step
      by (Some work) there step =
          let found = system-at before.systems one.number work is.no_batch there in
          of-system found.0 found.2 (subst (λ w. Step (WorkMeets meets batch_meets) one.reads one.writes w before.held refused left after.held) found.1 step)

  -- the plan's run, as one of the systems with the others behind them
  pub plan-seen : (stages : List (Stage ResourceId)) (before after : State V (Work P B)) (seen : State V P) (refused : Option (ℕ × Stop)) → IsSeen before seen → StagesRun (WorkMeets meets batch_meets) stages before refused after
      → Also (WorkMeets meets batch_meets) meets IsSeen (StagesRun meets stages seen refused) after
  plan-seen stages before after seen refused is runs = plan-alike (WorkMeets meets batch_meets) meets IsSeen turn-seen stages before after seen refused is runs
