use Rattle.std.proofs.Common.{◌≡◌, sym, ap, ◌∙◌, subst, refl}
use Rattle.shred_stages.specs.Views.{Leaves, error_of}
use Rattle.shred_world.specs.Bundles.{owned, with_slot}
use Rattle.scene_model.specs.Queues.{plain_commands, waiting}
use Rattle.scene_world.specs.Places.{kinds_of}
use Rattle.scene_world.specs.declared.placed.Placed.{Placed}
use Rattle.scene_world.specs.Turns.{Runs, TakesTurn, meaning_of, placed_as}
use Rattle.scene_world.proofs.PlacedLemmas.{placed-turn, placed-leaves}
use Rattle.scene_world.proofs.placed.PlacedSystemValue.run.Goals as goal

-- what is held at the end is what the run left, with its queue put back
put-back : (g : _) (c : goal.After-put g) → g.W.Holder.slots c.put.new.self
    ≡ with_slot (g.W.Holder.slots c.run-result.new.view) (g.R.Value.SceneValue.places.queue_id c.args.self.now.position) (owned (g.R.Value.SceneValue.places.queue_value c.run-result.new.queue))
put-back g c =
    c.put.ensures
    ∙ ap (λ id. with_slot (g.W.Holder.slots c.run-result.new.view) id (owned c.wrap_queue.result)) c.queue_id-id.ensures
    ∙ ap (λ v. with_slot (g.W.Holder.slots c.run-result.new.view) (g.R.Value.SceneValue.places.queue_id c.args.self.now.position) (owned v)) c.wrap_queue.ensures.value

pub returns-clause-meets : goal.returns-clause-meets
returns-clause-meets g c =
    let places = g.R.Value.SceneValue.places in
    let kinds = kinds_of places g.R.DocumentRules.part_of g.R.WorldRules.columns in
    let w = g.W.Holder.slots c.args.view.now in
    let later = g.W.Holder.slots c.run-result.new.view in
    let queue = c.run-result.new.queue in
    let after : Placed g.row.R.Denot g.row.R-Value.Denot g.row.R-Data.Denot g.row.R-Global.Denot g.row.R-System.Denot = record { position = c.args.self.now.position; system = c.run-result.new.system } in
    subst (λ left. TakesTurn kinds (placed_as (λ placed. placed.position) (λ placed. placed.system) g.R.DocumentRules.kind_of g.R.DocumentRules.config_of g.R.DocumentRules.declared g.R.Rules.sense g.R.Rules.does) c.args.self.now w (error_of c.run-result.result) after left) (sym (put-back g c))
    (placed-turn places g.R.DocumentRules.part_of g.R.WorldRules.columns g.met.R.WorldRules.apart g.R.DocumentRules.kind_of g.R.DocumentRules.config_of g.R.DocumentRules.declared g.R.Rules.sense g.R.Rules.does (λ placed. placed.position) (λ placed. placed.system)
    c.args.self.now after refl w later queue (sym (ap places.queue c.wrap_queue.ensures.value) ∙ c.wrap_queue.ensures.read) (error_of c.run-result.result)
    (subst (λ seen. Runs kinds (meaning_of 0 g.R.DocumentRules.kind_of g.R.DocumentRules.config_of g.R.DocumentRules.declared g.R.Rules.sense g.R.Rules.does) c.args.self.now.system seen (error_of c.run-result.result) c.run-result.new.system later (plain_commands g.R.DocumentRules.part_of (waiting queue)))
    c.in-Some.ensures.some.slots c.run-result.ensures.runs))

pub returns-clause-leaves : goal.returns-clause-leaves
returns-clause-leaves g c =
    let places = g.R.Value.SceneValue.places in
    subst (λ left. Leaves (g.W.Holder.slots c.args.view.now) left) (sym (put-back g c))
    (placed-leaves {P = Placed g.row.R.Denot g.row.R-Value.Denot g.row.R-Data.Denot g.row.R-Global.Denot g.row.R-System.Denot} places g.R.DocumentRules.part_of g.R.WorldRules.columns g.met.R.WorldRules.apart g.R.DocumentRules.kind_of g.R.DocumentRules.config_of g.R.DocumentRules.declared g.R.Rules.sense g.R.Rules.does (λ placed. placed.position) (λ placed. placed.system)
    c.args.self.now.position (g.W.Holder.slots c.args.view.now) (g.W.Holder.slots c.run-result.new.view) c.in-Some.queue c.run-result.new.queue c.in-Some.ensures.some.there
    (subst (λ seen. Leaves seen (g.W.Holder.slots c.run-result.new.view)) c.in-Some.ensures.some.slots c.run-result.ensures.leaves))
