use Rattle.std.proofs.Common.{◌≡◌, ◌∙◌, sym, subst}
use Rattle.scene_document.specs.Texts.{scene_json, text_of, ReadsBack}
use Rattle.scene.specs.Limits.{bounds_of}
use Rattle.scene.specs.Runs.{Ran}
use Rattle.scene_world.specs.Places.{kinds_of}
use Rattle.scene_world.specs.Turns.{placed_as}
use Rattle.scene.specs.Turns.{Shown, opening, RunsOut}
use Rattle.scene.specs.Running.{shown_of, rules_of}
use Rattle.scene.specs.Printed.{CanBeRead}
use Rattle.scene.proofs.laws.resumed.finish.Goals as goal

pub returns-clause-done : goal.returns-clause-done
returns-clause-done g c =
    let book = g.R.DocumentRules.book in
    let opened = c.in-Ok.ensures in
    let last = c.run_to_end-scene.result in
    let started : Shown = shown_of (kinds_of g.R.Value.SceneValue.places g.R.DocumentRules.part_of g.R.WorldRules.columns) g.R.DocumentRules.part_of g.R.DocumentRules.global_of (placed_as (λ placed. placed.position) (λ placed. placed.system) g.R.DocumentRules.kind_of g.R.DocumentRules.config_of g.R.DocumentRules.declared g.R.Rules.sense g.R.Rules.does) book c.in-Ok.scene in
    let ended : Shown = shown_of (kinds_of g.R.Value.SceneValue.places g.R.DocumentRules.part_of g.R.WorldRules.columns) g.R.DocumentRules.part_of g.R.DocumentRules.global_of (placed_as (λ placed. placed.position) (λ placed. placed.system) g.R.DocumentRules.kind_of g.R.DocumentRules.config_of g.R.DocumentRules.declared g.R.Rules.sense g.R.Rules.does) book last in
    let same : rules_of last ≡ c.args.rules = c.run_to_end-scene.ensures.rules ∙ opened.same_rules in
    let ends : RunsOut (book c.args.rules) (opening (bounds_of c.args.limits) opened.document.0) ended =
    subst (λ start. RunsOut (book c.args.rules) start ended) opened.document.2 (subst (λ rules. RunsOut (book rules) started ended) opened.same_rules c.run_to_end-scene.ensures.end) in
    record {
      draft = opened.document.0;
      scene = ended.scene;
      document = opened.document.1;
      begins = opened.document.3;
      ran = subst (λ report. Ran (book c.args.rules) (bounds_of c.args.limits) opened.document.0 report ended.scene) (sym c.into_parts-rules.ensures.report) (ends.reached, ends.ended);
      means = c.had_means.ensures.0 c.if-not-had_means.false;
      readable = subst (λ rules. CanBeRead (book rules) ended.scene) same c.a_ready_scene_can_be_read.ensures;
      written = subst (λ rules. c.in_ok-text.text.items ≡ text_of (book rules) ended.scene) same c.in_ok-text.ensures.text;
      reads = subst (λ rules. ReadsBack c.in_ok-text.text.items (scene_json (book rules) ended.scene)) same c.in_ok-text.ensures.reads;
    }
