use Rattle.scene_world.specs.Places.{kinds_of}
use Rattle.scene_world.specs.Turns.{placed_as}
use Rattle.scene.specs.Running.{IsReady}
use Rattle.scene_trace.proofs.tracing.show_all.Given as goal

-- the scene is ready for its next frame
abbrev pub invariant-loop : goal.invariant-loop
invariant-loop g l = IsReady (kinds_of g.R.Value.SceneValue.places g.R.DocumentRules.part_of g.R.WorldRules.columns) g.R.DocumentRules.part_of g.R.DocumentRules.global_of (placed_as (λ placed. placed.position) (λ placed. placed.system) g.R.DocumentRules.kind_of g.R.DocumentRules.config_of g.R.DocumentRules.declared g.R.Rules.sense g.R.Rules.does) g.R.DocumentRules.book l.scene
