use Rattle.std.proofs.Common.{arith, ◌≡◌, ◌<◌}
use Rattle.scene.specs.Turns.{frames_left}
use Rattle.scene_world.specs.Places.{kinds_of}
use Rattle.scene_world.specs.Turns.{placed_as}
use Rattle.scene.specs.Running.{shown_of}
use Rattle.scene.proofs.FrameLemmas.{first-going, more-going, all-ran, ran-to-refusal}
use Rattle.scene.proofs.standing.SceneShiftWorldValuePackValueWorksValue.run.Goals as goal

pub loop-self-init : goal.loop-self-init
loop-self-init g c =
    let kinds = kinds_of g.R.Value.SceneValue.places g.R.DocumentRules.part_of g.R.WorldRules.columns in
    let meaning = placed_as (λ placed. placed.position) (λ placed. placed.system) g.R.DocumentRules.kind_of g.R.DocumentRules.config_of g.R.DocumentRules.declared g.R.Rules.sense g.R.Rules.does in
    first-going kinds g.R.DocumentRules.part_of g.R.DocumentRules.global_of meaning g.R.DocumentRules.book c.args.self.now c.requires

pub loop-self-preserved : goal.loop-self-preserved
loop-self-preserved g c =
    let kinds = kinds_of g.R.Value.SceneValue.places g.R.DocumentRules.part_of g.R.WorldRules.columns in
    let meaning = placed_as (λ placed. placed.position) (λ placed. placed.system) g.R.DocumentRules.kind_of g.R.DocumentRules.config_of g.R.DocumentRules.declared g.R.Rules.sense g.R.Rules.does in
    let left : 0 < frames_left (shown_of kinds g.R.DocumentRules.part_of g.R.DocumentRules.global_of meaning g.R.DocumentRules.book c.loop-self.self) = omega (arith, c.left.ensures, c.loop-self-test.true) in
    more-going kinds g.R.DocumentRules.part_of g.R.DocumentRules.global_of meaning g.R.DocumentRules.book c.args.self.now c.loop-self.self c.run_frame_with.new.self c.loop-self.invariant left c.in-Ok.ensures.rules c.in-Ok.ensures.ready c.in-Ok.ensures.ok

pub returns-in-Err : goal.returns-in-Err
returns-in-Err g c =
    let kinds = kinds_of g.R.Value.SceneValue.places g.R.DocumentRules.part_of g.R.WorldRules.columns in
    let meaning = placed_as (λ placed. placed.position) (λ placed. placed.system) g.R.DocumentRules.kind_of g.R.DocumentRules.config_of g.R.DocumentRules.declared g.R.Rules.sense g.R.Rules.does in
    let left : 0 < frames_left (shown_of kinds g.R.DocumentRules.part_of g.R.DocumentRules.global_of meaning g.R.DocumentRules.book c.loop-self.self) = omega (arith, c.left.ensures, c.loop-self-test.true) in
    ran-to-refusal kinds g.R.DocumentRules.part_of g.R.DocumentRules.global_of meaning g.R.DocumentRules.book c.args.self.now c.loop-self.self c.run_frame_with.new.self c.loop-self.invariant left c.in-Err.ensures.rules c.in-Err.ensures.ready c.in-Err.ensures.err

pub returns : goal.returns
returns g c =
    let kinds = kinds_of g.R.Value.SceneValue.places g.R.DocumentRules.part_of g.R.WorldRules.columns in
    let meaning = placed_as (λ placed. placed.position) (λ placed. placed.system) g.R.DocumentRules.kind_of g.R.DocumentRules.config_of g.R.DocumentRules.declared g.R.Rules.sense g.R.Rules.does in
    let none : frames_left (shown_of kinds g.R.DocumentRules.part_of g.R.DocumentRules.global_of meaning g.R.DocumentRules.book c.loop-self.self) ≡ 0 = omega (arith, c.left.ensures, c.loop-self-test.false) in
    all-ran kinds g.R.DocumentRules.part_of g.R.DocumentRules.global_of meaning g.R.DocumentRules.book c.args.self.now c.loop-self.self c.loop-self.invariant none
