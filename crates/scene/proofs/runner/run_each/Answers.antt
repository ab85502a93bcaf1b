use Rattle.std.proofs.Common.{arith, ◌≡◌, ◌<◌}
use Rattle.scene.specs.Turns.{frames_left}
use Rattle.scene_world.specs.Places.{kinds_of}
use Rattle.scene_world.specs.Turns.{placed_as}
use Rattle.scene.specs.Running.{shown_of}
use Rattle.scene.proofs.FrameLemmas.{first-going, more-going, all-ran, ran-to-refusal}
use Rattle.scene.proofs.RestLemmas.{ran-at-rest}
use Rattle.scene.proofs.runner.run_each.Goals as goal

pub loop-scene-init : goal.loop-scene-init
loop-scene-init g c =
    let kinds = kinds_of g.R.Value.SceneValue.places g.R.DocumentRules.part_of g.R.WorldRules.columns in
    let meaning = placed_as (λ placed. placed.position) (λ placed. placed.system) g.R.DocumentRules.kind_of g.R.DocumentRules.config_of g.R.DocumentRules.declared g.R.Rules.sense g.R.Rules.does in
    first-going kinds g.R.DocumentRules.part_of g.R.DocumentRules.global_of meaning g.R.DocumentRules.book c.args.scene c.requires

pub loop-scene-preserved : goal.loop-scene-preserved
loop-scene-preserved g c =
    let kinds = kinds_of g.R.Value.SceneValue.places g.R.DocumentRules.part_of g.R.WorldRules.columns in
    let meaning = placed_as (λ placed. placed.position) (λ placed. placed.system) g.R.DocumentRules.kind_of g.R.DocumentRules.config_of g.R.DocumentRules.declared g.R.Rules.sense g.R.Rules.does in
    let left : 0 < frames_left (shown_of kinds g.R.DocumentRules.part_of g.R.DocumentRules.global_of meaning g.R.DocumentRules.book c.loop-scene.scene) = omega (arith, c.left.ensures, c.loop-scene-test.true) in
    more-going kinds g.R.DocumentRules.part_of g.R.DocumentRules.global_of meaning g.R.DocumentRules.book c.args.scene c.loop-scene.scene c.run_frame.new.self c.loop-scene.invariant left c.in-Ok.ensures.rules c.in-Ok.ensures.ready c.in-Ok.ensures.ok

pub returns-in-Err : goal.returns-in-Err
returns-in-Err g c =
    let kinds = kinds_of g.R.Value.SceneValue.places g.R.DocumentRules.part_of g.R.WorldRules.columns in
    let meaning = placed_as (λ placed. placed.position) (λ placed. placed.system) g.R.DocumentRules.kind_of g.R.DocumentRules.config_of g.R.DocumentRules.declared g.R.Rules.sense g.R.Rules.does in
    let left : 0 < frames_left (shown_of kinds g.R.DocumentRules.part_of g.R.DocumentRules.global_of meaning g.R.DocumentRules.book c.loop-scene.scene) = omega (arith, c.left.ensures, c.loop-scene-test.true) in
    ran-to-refusal kinds g.R.DocumentRules.part_of g.R.DocumentRules.global_of meaning g.R.DocumentRules.book c.args.scene c.loop-scene.scene c.run_frame.new.self c.loop-scene.invariant left c.in-Err.ensures.rules c.in-Err.ensures.ready c.in-Err.ensures.err

pub returns : goal.returns
returns g c =
    let kinds = kinds_of g.R.Value.SceneValue.places g.R.DocumentRules.part_of g.R.WorldRules.columns in
    let meaning = placed_as (λ placed. placed.position) (λ placed. placed.system) g.R.DocumentRules.kind_of g.R.DocumentRules.config_of g.R.DocumentRules.declared g.R.Rules.sense g.R.Rules.does in
    let none : frames_left (shown_of kinds g.R.DocumentRules.part_of g.R.DocumentRules.global_of meaning g.R.DocumentRules.book c.loop-scene.scene) ≡ 0 = omega (arith, c.left.ensures, c.loop-scene-test.false) in
    all-ran kinds g.R.DocumentRules.part_of g.R.DocumentRules.global_of meaning g.R.DocumentRules.book c.args.scene c.loop-scene.scene c.loop-scene.invariant none

pub returns-then-is_at_rest : goal.returns-then-is_at_rest
returns-then-is_at_rest g c =
    let kinds = kinds_of g.R.Value.SceneValue.places g.R.DocumentRules.part_of g.R.WorldRules.columns in
    let meaning = placed_as (λ placed. placed.position) (λ placed. placed.system) g.R.DocumentRules.kind_of g.R.DocumentRules.config_of g.R.DocumentRules.declared g.R.Rules.sense g.R.Rules.does in
    ran-at-rest kinds g.R.DocumentRules.part_of g.R.DocumentRules.global_of meaning g.R.DocumentRules.book c.args.scene c.loop-scene.scene c.rest.new.self c.loop-scene.invariant (c.is_at_rest.ensures c.if-is_at_rest.true) c.rest.ensures.rules c.rest.ensures.ready c.rest.ensures.shown
