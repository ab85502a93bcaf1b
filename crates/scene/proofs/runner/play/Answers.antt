use Rattle.std.proofs.Common.{◌≡◌, Err, ◌∙◌, subst, arith}
use Rattle.scene_document.specs.Texts.{scene_json, text_of, ReadsBack}
use Rattle.scene_model.specs.Scenes.{IsProper}
use Rattle.scene.specs.Outcomes.{bounds_of}
use Rattle.scene.specs.Turns.{RunsOut}
use Rattle.scene.proofs.OutcomeLemmas.{run_of}
use Rattle.scene_world.specs.Places.{kinds_of}
use Rattle.scene_world.specs.Turns.{placed_as}
use Rattle.scene.specs.Running.{shown_of, rules_of}
use Rattle.scene.proofs.runner.play.Goals as goal

pub returns-in_err-scene : goal.returns-in_err-scene
returns-in_err-scene g c =
    let failed : c.from_residual.result ≡ Err c.in_err-scene.field-0.0 = grind arith in
    rw failed c.in_err-scene.ensures

pub returns : goal.returns
returns g c =
    let read = c.in_ok-scene.ensures in
    let opened = read.2 in
    let same : (rules_of c.run_to_end-scene.result) ≡ c.args.rules = c.run_to_end-scene.ensures.rules ∙ opened.same_rules in
    run_of (g.R.DocumentRules.book c.args.rules) (bounds_of c.args.limits) c.args.bytes.items read.0 opened.document.0 (shown_of (kinds_of g.R.Value.SceneValue.places g.R.DocumentRules.part_of g.R.WorldRules.columns) g.R.DocumentRules.part_of g.R.DocumentRules.global_of (placed_as (λ placed. placed.position) (λ placed. placed.system) g.R.DocumentRules.kind_of g.R.DocumentRules.config_of g.R.DocumentRules.declared g.R.Rules.sense g.R.Rules.does) g.R.DocumentRules.book c.in_ok-scene.scene) (shown_of (kinds_of g.R.Value.SceneValue.places g.R.DocumentRules.part_of g.R.WorldRules.columns) g.R.DocumentRules.part_of g.R.DocumentRules.global_of (placed_as (λ placed. placed.position) (λ placed. placed.system) g.R.DocumentRules.kind_of g.R.DocumentRules.config_of g.R.DocumentRules.declared g.R.Rules.sense g.R.Rules.does) g.R.DocumentRules.book c.run_to_end-scene.result) c.into_report.result c.in-Ok.text.items
    read.1 opened.document.1 opened.document.2 opened.document.3
    (subst (λ one. RunsOut (g.R.DocumentRules.book one) (shown_of (kinds_of g.R.Value.SceneValue.places g.R.DocumentRules.part_of g.R.WorldRules.columns) g.R.DocumentRules.part_of g.R.DocumentRules.global_of (placed_as (λ placed. placed.position) (λ placed. placed.system) g.R.DocumentRules.kind_of g.R.DocumentRules.config_of g.R.DocumentRules.declared g.R.Rules.sense g.R.Rules.does) g.R.DocumentRules.book c.in_ok-scene.scene) (shown_of (kinds_of g.R.Value.SceneValue.places g.R.DocumentRules.part_of g.R.WorldRules.columns) g.R.DocumentRules.part_of g.R.DocumentRules.global_of (placed_as (λ placed. placed.position) (λ placed. placed.system) g.R.DocumentRules.kind_of g.R.DocumentRules.config_of g.R.DocumentRules.declared g.R.Rules.sense g.R.Rules.does) g.R.DocumentRules.book c.run_to_end-scene.result)) opened.same_rules c.run_to_end-scene.ensures.end)
    (subst (λ one. IsProper (g.R.DocumentRules.book one) (shown_of (kinds_of g.R.Value.SceneValue.places g.R.DocumentRules.part_of g.R.WorldRules.columns) g.R.DocumentRules.part_of g.R.DocumentRules.global_of (placed_as (λ placed. placed.position) (λ placed. placed.system) g.R.DocumentRules.kind_of g.R.DocumentRules.config_of g.R.DocumentRules.declared g.R.Rules.sense g.R.Rules.does) g.R.DocumentRules.book c.run_to_end-scene.result).scene) same c.run_to_end-scene.ensures.ready.proper)
    c.into_report.ensures
    (subst (λ one. c.in-Ok.text.items ≡ text_of (g.R.DocumentRules.book one) (shown_of (kinds_of g.R.Value.SceneValue.places g.R.DocumentRules.part_of g.R.WorldRules.columns) g.R.DocumentRules.part_of g.R.DocumentRules.global_of (placed_as (λ placed. placed.position) (λ placed. placed.system) g.R.DocumentRules.kind_of g.R.DocumentRules.config_of g.R.DocumentRules.declared g.R.Rules.sense g.R.Rules.does) g.R.DocumentRules.book c.run_to_end-scene.result).scene) same c.in-Ok.ensures.text)
    (subst (λ one. ReadsBack c.in-Ok.text.items (scene_json (g.R.DocumentRules.book one) (shown_of (kinds_of g.R.Value.SceneValue.places g.R.DocumentRules.part_of g.R.WorldRules.columns) g.R.DocumentRules.part_of g.R.DocumentRules.global_of (placed_as (λ placed. placed.position) (λ placed. placed.system) g.R.DocumentRules.kind_of g.R.DocumentRules.config_of g.R.DocumentRules.declared g.R.Rules.sense g.R.Rules.does) g.R.DocumentRules.book c.run_to_end-scene.result).scene)) same c.in-Ok.ensures.reads)
