use Rattle.std.proofs.Common.{arith, ◌≡◌, subst}
use Rattle.scene.specs.Turns.{RunsOut}
use Rattle.scene_world.specs.Places.{kinds_of}
use Rattle.scene_world.specs.Turns.{placed_as}
use Rattle.scene.specs.Running.{shown_of, rules_of}
use Rattle.scene.proofs.runner.run_to_end.Goals as goal

pub returns-in-Err-clause-end : goal.returns-in-Err-clause-end
returns-in-Err-clause-end g c =
    let back : c.in-Err.field-0.shift ≡ c.args.scene = grind arith in
    let shown = shown_of (kinds_of g.R.Value.SceneValue.places g.R.DocumentRules.part_of g.R.WorldRules.columns) g.R.DocumentRules.part_of g.R.DocumentRules.global_of (placed_as (λ placed. placed.position) (λ placed. placed.system) g.R.DocumentRules.kind_of g.R.DocumentRules.config_of g.R.DocumentRules.declared g.R.Rules.sense g.R.Rules.does) g.R.DocumentRules.book in
    subst (λ scene. RunsOut (g.R.DocumentRules.book (rules_of scene)) (shown scene) (shown c.run_each-in-Err.result)) back c.run_each-in-Err.ensures.end
