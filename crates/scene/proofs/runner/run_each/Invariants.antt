use Rattle.scene.specs.Turns.{frames_left}
use Rattle.scene_world.specs.Places.{kinds_of}
use Rattle.scene_world.specs.Turns.{placed_as}
use Rattle.scene.specs.Running.{shown_of, IsGoing}
use Rattle.scene.proofs.runner.run_each.Given as goal

abbrev pub decreases-loop-scene : goal.decreases-loop-scene
decreases-loop-scene g l = frames_left (shown_of (kinds_of g.R.Value.SceneValue.places g.R.DocumentRules.part_of g.R.WorldRules.columns) g.R.DocumentRules.part_of g.R.DocumentRules.global_of (placed_as (λ placed. placed.position) (λ placed. placed.system) g.R.DocumentRules.kind_of g.R.DocumentRules.config_of g.R.DocumentRules.declared g.R.Rules.sense g.R.Rules.does) g.R.DocumentRules.book l.scene)

abbrev pub invariant-loop-scene : goal.invariant-loop-scene
invariant-loop-scene g l = IsGoing (kinds_of g.R.Value.SceneValue.places g.R.DocumentRules.part_of g.R.WorldRules.columns) g.R.DocumentRules.part_of g.R.DocumentRules.global_of (placed_as (λ placed. placed.position) (λ placed. placed.system) g.R.DocumentRules.kind_of g.R.DocumentRules.config_of g.R.DocumentRules.declared g.R.Rules.sense g.R.Rules.does) g.R.DocumentRules.book l.fn.scene l.scene
