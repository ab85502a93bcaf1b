use Rattle.std.proofs.Common.{Some, sym, subst}
use Rattle.shred_world.specs.Bundles.{Holding}
use Rattle.shred_stages.specs.declared.stop.Stop.TheVariants as stop
use Rattle.shred_stages.specs.Runs.{Step}
use Rattle.shred_stages.proofs.CallerLemmas.{step-leaves}
use Rattle.scene_world.specs.Places.{kinds_of}
use Rattle.scene_world.specs.Turns.{TakesTurn, placed_as}
use Rattle.scene_dispatch.proofs.AloneLemmas.{wants-memory}
use Rattle.scene_dispatch.specs.Lent.{reads_of, writes_of}
use Rattle.scene_dispatch.proofs.local.PlacedLocalRunNowValue.run_now.Goals as goal

pub returns-in-Ok-clause-leaves : goal.returns-in-Ok-clause-leaves
returns-in-Ok-clause-leaves g c = step-leaves _ _ _ _ _ _ _ _ c.in-Ok.ensures.runs

pub returns-in-Err-clause-meets : goal.returns-in-Err-clause-meets
returns-in-Err-clause-meets g c =
    let kinds = kinds_of g.R.Value.SceneValue.places g.R.DocumentRules.part_of g.R.WorldRules.columns in
    let meaning = placed_as (λ placed. placed.position) (λ placed. placed.system) g.R.DocumentRules.kind_of g.R.DocumentRules.config_of g.R.DocumentRules.declared g.R.Rules.sense g.R.Rules.does in
    let placed = c.args.self.now.placed in
    let w = g.W.Holder.slots c.args.world.now in
    subst (λ left. Step (TakesTurn kinds meaning) (reads_of kinds (meaning.plain placed)) (writes_of kinds (meaning.plain placed)) placed w (Some stop.Memory) left (g.W.Holder.slots c.run_alone.new.world)) (sym c.in-Err.ensures.not_run)
    (subst (λ (h : Holding g.row.R-Value.Denot). Step (TakesTurn kinds meaning) (reads_of kinds (meaning.plain placed)) (writes_of kinds (meaning.plain placed)) placed w (Some stop.Memory) placed h) (sym c.in-Err.ensures.err)
    (wants-memory kinds meaning (reads_of kinds (meaning.plain placed)) (writes_of kinds (meaning.plain placed)) placed w tt))
