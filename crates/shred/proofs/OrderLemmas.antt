-- A dispatch whose staged systems come to the same in any order, and the local ones after them.
use Rattle.std.proofs.Common.{◌≡◌, ℕ, sym, subst, List, Option, Some, None, Result, Ok, Err}
use Rattle.shred_world.specs.Bundles.{Holding}
use Rattle.shred_plan.specs.Plan.{plan_order}
use Rattle.shred_stages.specs.declared.stop.Stop.{Stop}
use Rattle.shred_stages.specs.declared.error.DispatchError.{DispatchError}
use Rattle.shred_stages.specs.declared.error.DispatchError.TheVariants.{System, Local, Memory, Threads}
use Rattle.shred_stages.specs.Staging.{Staging}
use Rattle.shred_stages.specs.Ends.{RunsApart}
use Rattle.shred_stages.specs.Orders.{RunsUpToOrder}
use Rattle.shred.specs.Locals.{LocalsRun}
use Rattle.shred.specs.Dispatching.{Dispatching, DispatchesLocals, StepsThenLocals, DispatchesInAnyOrder}

module _ {V S L : Type 0} (meets : S → Holding V → Option Stop → S → Holding V → Type 0) (local_meets : L → Holding V → Option Stop → L → Holding V → Type 0)
    (before between after : Dispatching S L) (w w_between w_after : Holding V) (same : between.locals ≡ before.locals) where
  abbrev RunTo : Staging S → Type 0
  RunTo staging = RunsUpToOrder meets (plan_order before.staging.planning.stages) (record { systems = before.staging.systems; held = w }) (record { systems = staging.systems; held = w_between })

  abbrev LocalsTo : List L → Option (ℕ × Stop) → Type 0
  LocalsTo locals refused = LocalsRun local_meets 0 locals w_between refused after.locals w_after

  steps-then : {A : Type 0} (result : Result A DispatchError) (refused : Option (ℕ × Stop)) (ran : DispatchesLocals meets local_meets between w_between result after w_after) → ran.refused ≡ refused → RunTo between.staging
      → StepsThenLocals meets local_meets before w refused after w_after
  steps-then result refused ran is steps = record {
    w_between = w_between;
    steps = subst RunTo (sym ran.staging) steps;
    locals = subst (LocalsTo before.locals) is (subst (λ locals. LocalsTo locals ran.refused) same ran.runs);
  }

  -- local systems that run after staged ones
  pub steps-and-locals : {A : Type 0} (result : Result A DispatchError) → RunTo between.staging → DispatchesLocals meets local_meets between w_between result after w_after → DispatchesInAnyOrder meets local_meets before w result after w_after
  steps-and-locals (Ok a) steps ran = steps-then (Ok a) None ran ran.told steps
  steps-and-locals (Err (System id stop)) steps ran = tt
  steps-and-locals (Err (Local place stop)) steps ran = steps-then (Err (Local place stop)) (Some (place, stop)) ran ran.told steps
  steps-and-locals (Err Memory) steps ran = tt
  steps-and-locals (Err Threads) steps ran = tt

  -- staged systems of which one refused, or which ended early
  pub refused-in-any-order : (A : Type 0) (error : DispatchError) → RunsApart meets {A = A} before.staging w (Err error) between.staging w_between → DispatchesInAnyOrder meets local_meets {A = A} before w (Err error) after w_after
  refused-in-any-order A (System id stop) runs = tt
  refused-in-any-order A (Local place stop) runs = absurd runs
  refused-in-any-order A Memory runs = tt
  refused-in-any-order A Threads runs = tt
