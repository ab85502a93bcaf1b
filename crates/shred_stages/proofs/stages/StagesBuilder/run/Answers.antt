use Rattle.std.proofs.Common.{rules, List, length, ap, sym, subst, ◌∙◌}
use Rattle.std.specs.Prelude.{map}
use Rattle.shred_stages.specs.declared.turn.Staged.{Staged}
use Rattle.shred_stages.specs.Orders.{RunsInAnyOrder}
use Rattle.shred_stages.specs.Staging.{Staging}
use Rattle.shred_stages.proofs.LeaveLemmas.{stages-leave}
use Rattle.shred_stages.proofs.WholeLemmas.{take-whole}
use Rattle.shred_stages.proofs.PlanLemmas.{run-in-any-order}
use Rattle.shred_stages.proofs.stages.StagesBuilder.run.Goals as goal

pub returns-clause-leaves : goal.returns-clause-leaves
returns-clause-leaves g c = stages-leave g.S.System.meets _ _ _ _ c.run_stages.ensures.runs

pub returns-clause-any_order : goal.returns-clause-any_order
returns-clause-any_order g c =
    let whole = take-whole c.self.inside.staged.len c.run_stages.new.staged c.self.inside.staged.items (search rules) (search rules) in
    let planner = c.self.inside.planner in
    let value = c.as_mut_slice.ensures.value in
    let staging : List (Staged _ _) → Staging _ = λ staged. record { planning = planner; systems = map (λ one. one.system) staged } in
    let P : Staging _ → List (Staged _ _) → Type 0 = λ before after.
    RunsInAnyOrder g.S.System.meets before (g.W.Holder.slots c.args.world.now) c.run_stages.result (staging after) (g.W.Holder.slots c.run_stages.new.world) in
    subst (P c.args.self.now) (sym whole) (subst (λ before. P before c.run_stages.new.staged) (ap staging value ∙ c.self.view_is)
    (run-in-any-order g.S.System.meets _ (length c.self.inside.staged.items) planner planner c.stages.result.now c.as_mut_slice.result.now c.run_stages.new.staged _ _ c.self.invariant.0.planned c.stages.ensures c.run_stages.result c.run_stages.ensures.runs))
