use Rattle.std.proofs.Common.{◌≡◌, List, length, sym, ap, subst, ◌∙◌}
use Rattle.std.specs.List.{All}
use Rattle.std.specs.Prelude.{map}
use Rattle.shred_world.specs.Bundles.{holding_of}
use Rattle.shred_world.specs.declared.resource_id.ResourceId.{ResourceId}
use Rattle.shred_plan.specs.Plan.{Stage}
use Rattle.shred_stages.specs.Free.{AreFree}
use Rattle.shred_stages.specs.Runs.{State}
use Rattle.shred_stages.specs.Seats.{StagesAreSeated}
use Rattle.shred_stages.proofs.FreeLemmas.{planned-free}
use Rattle.shred_stages.specs.Orders.{RunsInAnyOrder}
use Rattle.shred_stages.specs.Staging.{Staging}
use Rattle.shred_stages.proofs.EndLemmas.{ends-leave}
use Rattle.shred_stages.proofs.PlanLemmas.{ends-in-any-order}
use Rattle.shred_stages.proofs.stages.StagesBuilder.execute_with.Goals as goal

pub run_standing-requires-clause-free : goal.run_standing-requires-clause-free
run_standing-requires-clause-free g c =
    let kept : c.make_ready.new.berths.items ≡ c.self.inside.planner.stages = c.in-Ok.ensures.ok ∙ c.stages-stages.ensures in
    let P : List (Stage ResourceId) → Type 0 = λ stages. All AreFree stages in
    subst P (sym kept) (planned-free c.self.inside.planner (length c.self.inside.staged.items) c.self.invariant.0.planned)

pub run_standing-requires-clause-seated : goal.run_standing-requires-clause-seated
run_standing-requires-clause-seated g c =
    let kept : c.make_ready.new.berths.items ≡ c.self.inside.planner.stages = c.in-Ok.ensures.ok ∙ c.stages-stages.ensures in
    let P : List (Stage ResourceId) → Type 0 = λ stages. StagesAreSeated stages c.self.inside.staged.items in
    subst P (sym kept) c.self.invariant.0.seated

pub returns-clause-leaves : goal.returns-clause-leaves
returns-clause-leaves g c = ends-leave g.S.System.meets c.make_ready.new.berths.items _ _ c.run_standing.result c.run_standing.ensures.ends

pub returns-clause-any_order : goal.returns-clause-any_order
returns-clause-any_order g c =
    let kept : c.make_ready.new.berths.items ≡ c.self.inside.planner.stages = c.in-Ok.ensures.ok ∙ c.stages-stages.ensures in
    let planner = c.self.inside.planner in
    let staged = c.self.inside.staged.items in
    let P : Staging _ → Type 0 = λ staging.
    RunsInAnyOrder g.S.System.meets staging (holding_of c.args.world.now) c.run_standing.result (record { planning = planner; systems = map (λ one. one.system) c.run_standing.new.staged.items }) (holding_of c.run_standing.new.world) in
    subst P c.self.view_is
    (ends-in-any-order g.S.System.meets _ (length staged) planner planner c.make_ready.new.berths.items staged c.run_standing.new.staged.items _ _ c.self.invariant.0.planned kept c.run_standing.result c.run_standing.ensures.ends)

pub returns-in_default-clause-runs : goal.returns-in_default-clause-runs
returns-in_default-clause-runs g c =
    let state : Staging g.row.S.Denot → State g.row.V.Denot g.row.S.Denot = λ staging. record { systems = staging.systems; held = holding_of c.args.world.now } in
    ap state c.self.view_is
