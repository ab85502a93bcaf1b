-- A run that is under way in a thread: what it was started with, and what it is bound to leave.
use Rattle.std.specs.Prelude.{◌≡◌, ◌<◌, ℕ, List, Option, Result, refl}
use Rattle.std.specs.FinMap as map
use Rattle.std.specs.Coded.{Coded, code_by, coded×, coded_ℕ, coded_list, coded_option}
use Rattle.shred_world.specs.declared.resource_id.ResourceId.{ResourceId}
use Rattle.shred_world.specs.ResourceIds.{id_cmp, coded_id}
use Rattle.shred_world.specs.Bundles.{Holding, holding_of}
use Rattle.shred_plan.specs.Plan.{Placing, Planning}
use Rattle.shred_stages.specs.declared.stop.Stop.{Stop}
use Rattle.shred_stages.specs.declared.error.DispatchError.{DispatchError}
use Rattle.shred_stages.specs.Staging.{Staging, Runs}
use Rattle.shred_stages.specs.Views.{Leaves as LeavesIds}
use Rattle.shred_stages.specs.Ends.{RunsApart}
use Rattle.shred_stages.specs.Orders.{RunsInAnyOrder}
use Rattle.shred_stages.specs.declared.errand.Errand.{Errand}
use Rattle.shred_stages.specs.declared.errand.Unstarted.{Unstarted}
use Rattle.shred_stages.specs.declared.errand.Unstarted.TheVariants.{Memory, Thread}

-- each is stored as the tuple of its fields
abbrev placing_code : Coded (Placing ResourceId)
placing_code =
    code_by (ℕ × (List ResourceId × (List ResourceId × (List ℕ × ℕ))))
    (coded× coded_ℕ (coded× (coded_list coded_id) (coded× (coded_list coded_id) (coded× (coded_list coded_ℕ) coded_ℕ))))
    (λ p. (p.number, (p.reads, (p.writes, (p.after, p.time)))))
    (λ q. record { number = q.0; reads = q.1.0; writes = q.1.1.0; after = q.1.1.1.0; time = q.1.1.1.1 })
    (λ _. refl)

abbrev planning_code : Coded (Planning ResourceId)
planning_code =
    code_by (ℕ × List (List (List (Placing ResourceId))))
    (coded× coded_ℕ (coded_list (coded_list (coded_list placing_code))))
    (λ p. (p.first, p.stages))
    (λ q. record { first = q.0; stages = q.1 })
    (λ _. refl)

abbrev pub staging_code : {S : Type 0} → Coded S → Coded (Staging S)
staging_code {S} code =
    code_by (Planning ResourceId × List S)
    (coded× planning_code (coded_list code))
    (λ s. (s.planning, s.systems))
    (λ q. record { planning = q.0; systems = q.1 })
    (λ _. refl)

abbrev pub errand_code : {V S : Type 0} → Coded V → Coded S → Coded (Errand V S)
errand_code {V} {S} values systems =
    code_by (Staging S × (ℕ × map.FinMap id_cmp (Option V)))
    (coded× (staging_code systems) (coded× coded_ℕ (map.code coded_id (coded_option values))))
    (λ e. (e.stages, (e.workers, e.world)))
    (λ q. record { stages = q.0; workers = q.1.0; world = q.1.1 })
    (λ _. refl)

-- what the run leaves, which is what a run of the stages on the caller's thread and workers ensures
pub record Leaves {V S A : Type 0} (meets : S → Holding V → Option Stop → S → Holding V → Type 0) (begun : Errand V S) (result : Result A DispatchError) (left : Errand V S) : Type 0 where
  pub runs : RunsApart meets begun.stages (holding_of begun.world) result left.stages (holding_of left.world)
  pub alone : begun.workers < 2 → Runs meets begun.stages (holding_of begun.world) result left.stages (holding_of left.world)
  pub any_order : RunsInAnyOrder meets begun.stages (holding_of begun.world) result left.stages (holding_of left.world)
  pub plan : left.stages.planning ≡ begun.stages.planning
  pub workers : left.workers ≡ begun.workers
  pub ids : LeavesIds (holding_of begun.world) (holding_of left.world)

-- where memory was wanting, all is handed back
abbrev pub HandsBack : {V S : Type 0} → Errand V S → Unstarted V S → Type 0
HandsBack errand (Memory back) = back ≡ errand
HandsBack errand Thread = Unit {0}
