use Rattle.std.proofs.Common.{◌≡◌, Option, sym, ap, ◌∙◌, subst}
use Rattle.shred_world.specs.Bundles.{Holding, holding_of}
use Rattle.shred_stages.specs.declared.stop.Stop.{Stop}
use Rattle.shred.specs.Batches.{Batched}
use Rattle.shred.specs.Nothing.{ChangesNothing}
use Rattle.shred.specs.declared.nothing.NoBatch.{NoBatch}
use Rattle.scene_world.specs.Standing.{seen_in, plain_of}
use Rattle.scene_world.proofs.CallerLemmas.{whole-world}
use Rattle.scene_world.specs.Places.{kinds_of}
use Rattle.scene_world.specs.Turns.{placed_as}
use Rattle.scene_dispatch.specs.Held.{dispatching_in}
use Rattle.scene_dispatch.specs.Orders.{turn_order}
use Rattle.scene_dispatch.specs.Frames.{cause_of, AreRefused, AreReady, Come}
use Rattle.scene_dispatch.proofs.AnswerLemmas.{Answered, still-held, same-order, answer-comes}
use Rattle.scene_dispatch.proofs.dispatcher.SceneDispatcher.run_systems_with.Goals as goal
use Rattle.scene_dispatch.proofs.dispatcher.SceneDispatcher.run_systems_with.Goals.{in-Ok, in-Err}

-- a run of a batch, of which there is none
batch_meets : {V P : Type 0} → Batched P NoBatch → Holding V → Option Stop → Batched P NoBatch → Holding V → Type 0
batch_meets before w refused after w_after = (ChangesNothing w refused w_after × (after.staging ≡ before.staging)) × (after.staging.planning ≡ before.staging.planning)

pub invariant_of-self : goal.invariant_of-self
unfolding batch_meets
invariant_of-self g c =
    let kinds = kinds_of g.R.Value.SceneValue.places g.R.DocumentRules.part_of g.R.WorldRules.columns in
    let meaning = placed_as (λ placed. placed.position) (λ placed. placed.system) g.R.DocumentRules.kind_of g.R.DocumentRules.config_of g.R.DocumentRules.declared g.R.Rules.sense g.R.Rules.does in
    still-held kinds meaning (g.R.DocumentRules.book c.args.rules.now) batch_meets (λ local. local.placed) c.self.inside.positions.items c.self.inside.local_positions.items
    c.self.inside.dispatcher c.dispatch_with.new.self c.self.invariant (holding_of c.args.world.now) (holding_of c.dispatch_with.new.world) c.dispatch_with.result c.dispatch_with.ensures.runs

pub returns-clause-order : goal.returns-clause-order
unfolding batch_meets
returns-clause-order g c =
    let kinds = kinds_of g.R.Value.SceneValue.places g.R.DocumentRules.part_of g.R.WorldRules.columns in
    let meaning = placed_as (λ placed. placed.position) (λ placed. placed.system) g.R.DocumentRules.kind_of g.R.DocumentRules.config_of g.R.DocumentRules.declared g.R.Rules.sense g.R.Rules.does in
    same-order kinds meaning (g.R.DocumentRules.book c.args.rules.now) batch_meets (λ local. local.placed) c.self.inside.positions.items c.self.inside.local_positions.items
    c.self.inside.dispatcher c.dispatch_with.new.self c.self.invariant (holding_of c.args.world.now) (holding_of c.dispatch_with.new.world) c.dispatch_with.result c.dispatch_with.ensures.runs
    ∙ ap (turn_order meaning.plain) c.self.view_is

pub returns-clause-comes : goal.returns-clause-comes
unfolding batch_meets
returns-clause-comes g c ready =
    let kinds = kinds_of g.R.Value.SceneValue.places g.R.DocumentRules.part_of g.R.WorldRules.columns in
    let meaning = placed_as (λ placed. placed.position) (λ placed. placed.system) g.R.DocumentRules.kind_of g.R.DocumentRules.config_of g.R.DocumentRules.declared g.R.Rules.sense g.R.Rules.does in
    let book = g.R.DocumentRules.book c.args.rules.now in
    let w = holding_of c.args.world.now in
    let later = holding_of c.dispatch_with.new.world in
    let after = dispatching_in (λ local. local.placed) c.dispatch_with.new.self in
    let before = dispatching_in (λ local. local.placed) c.self.inside.dispatcher in
    let came = answer-comes kinds meaning book batch_meets (λ local. local.placed) c.self.inside.positions.items c.self.inside.local_positions.items
    c.self.inside.dispatcher c.dispatch_with.new.self c.self.invariant w later c.dispatch_with.result c.dispatch_with.ensures.runs
    (whole-world c.args.world.now) (subst (λ systems. AreReady kinds meaning book systems w) (sym c.self.view_is) ready) in
    subst (λ systems. Come kinds meaning book systems w c.match-dispatch_with.result after later) c.self.view_is
    (elim c.match-dispatch_with.branch [
      | in-Ok arm ↦ subst (λ r. Come kinds meaning book before w r after later) (sym arm.result-is)
          (subst (λ r. Answered kinds meaning book c.self.inside.positions.items c.self.inside.local_positions.items before w r after later) arm.in-Ok.is came)
      | in-Err arm ↦ subst (λ r. Come kinds meaning book before w r after later) (sym arm.result-is)
          (subst (AreRefused book (turn_order meaning.plain before) (plain_of kinds (seen_in w)))
          (sym (arm.cause_of.ensures ∙ ap (λ l. cause_of l arm.deref-in-Err.result.now arm.in-Err.why) arm.deref.ensures.value ∙ ap (λ l. cause_of c.self.inside.positions.items l arm.in-Err.why) arm.deref-in-Err.ensures.value))
          (subst (λ r. Answered kinds meaning book c.self.inside.positions.items c.self.inside.local_positions.items before w r after later) arm.in-Err.is came))
    ])
