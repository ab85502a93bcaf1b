use Rattle.std.proofs.Common.{◌≡◌, ◌+◌, ◌++◌, Err, length, ap, ◌∙◌, append_assoc, arith}
use Rattle.std.proofs.lemmas.Result.{IfErr-weaker, on_ok_weaker}
use Rattle.std.proofs.lemmas.List.{length-map}
use Rattle.scene_model.specs.Queues.{plain_command, plain_commands}
use Rattle.scene_model.proofs.CallerLemmas.{joined-to}
use Rattle.scene_world.specs.Places.{kinds_of}
use Rattle.scene_world.specs.Standing.{plain_of, owning_in}
use Rattle.scene_commands.specs.Acts.{seen_of}
use Rattle.scene_commands.proofs.CallerLemmas.{goes-both, none-covers}
use Rattle.scene.specs.Waiting.{waiting_in}
use Rattle.scene.proofs.CommandLemmas.{acts-behind, acts-before}
use Rattle.scene.proofs.commands.act_both.Goals as goal

pub act_all-requires-clause-covers : goal.act_all-requires-clause-covers
act_all-requires-clause-covers g c = none-covers (kinds_of g.R.Value.SceneValue.places g.R.DocumentRules.part_of g.R.WorldRules.columns) c.new-holders.result c.args.world.now c.new-holders.ensures

pub returns-in_err-act_all-clause-refused : goal.returns-in_err-act_all-clause-refused
returns-in_err-act_all-clause-refused g c =
    let failed : c.from_residual.result ≡ Err c.in_err-act_all.field-0.0 = grind arith in
    rw failed (acts-before (kinds_of g.R.Value.SceneValue.places g.R.DocumentRules.part_of g.R.WorldRules.columns) 1 (plain_commands g.R.DocumentRules.part_of c.args.given.now) (waiting_in g.R.DocumentRules.part_of c.args.queues.now) c.args.world.now c.in_err-act_all.field-0.0 c.in_err-act_all.ensures.refused)

pub returns-clause-ran : goal.returns-clause-ran
returns-clause-ran g c =
    let count : length (plain_commands g.R.DocumentRules.part_of c.args.given.now) ≡ length c.args.given.now = length-map c.args.given.now (plain_command g.R.DocumentRules.part_of) in
    on_ok_weaker c.act_queues.result
    (λ ran. joined-to (owning_in (kinds_of g.R.Value.SceneValue.places g.R.DocumentRules.part_of g.R.WorldRules.columns)) c.args.frame 1 (c.count_of-earlier.result + 1) (plain_commands g.R.DocumentRules.part_of c.args.given.now) (waiting_in g.R.DocumentRules.part_of c.args.queues.now) (plain_of (kinds_of g.R.Value.SceneValue.places g.R.DocumentRules.part_of g.R.WorldRules.columns) (seen_of c.args.world.now)) (plain_of (kinds_of g.R.Value.SceneValue.places g.R.DocumentRules.part_of g.R.WorldRules.columns) (seen_of c.act_all.new.world)) (plain_of (kinds_of g.R.Value.SceneValue.places g.R.DocumentRules.part_of g.R.WorldRules.columns) (seen_of c.act_queues.new.world))
    c.args.skips.now.items c.act_all.new.skips.items c.act_queues.new.skips.items (omega (arith, count, c.count_of-earlier.ensures)) c.in_ok-act_all.ensures.ran ran)
    c.act_queues.ensures.ran

pub returns-clause-elsewhere : goal.returns-clause-elsewhere
returns-clause-elsewhere g c = on_ok_weaker c.act_queues.result (λ later id e m a p. later id e m a p ∙ c.in_ok-act_all.ensures.elsewhere id e m a p) c.act_queues.ensures.elsewhere

pub returns-clause-goes_on : goal.returns-clause-goes_on
returns-clause-goes_on g c = on_ok_weaker c.act_queues.result (goes-both (kinds_of g.R.Value.SceneValue.places g.R.DocumentRules.part_of g.R.WorldRules.columns) c.args.world.now c.act_all.new.world c.act_queues.new.world c.in_ok-act_all.ensures.goes_on) c.act_queues.ensures.goes_on

pub returns-clause-refused : goal.returns-clause-refused
returns-clause-refused g c =
    let count : length (plain_commands g.R.DocumentRules.part_of c.args.given.now) ≡ length c.args.given.now = length-map c.args.given.now (plain_command g.R.DocumentRules.part_of) in
    IfErr-weaker c.act_queues.result _ _
    (λ cause refuses. acts-behind (kinds_of g.R.Value.SceneValue.places g.R.DocumentRules.part_of g.R.WorldRules.columns) c.args.frame 1 (c.count_of-earlier.result + 1) (plain_commands g.R.DocumentRules.part_of c.args.given.now) (waiting_in g.R.DocumentRules.part_of c.args.queues.now) c.args.world.now c.act_all.new.world c.args.skips.now.items c.act_all.new.skips.items cause
    (omega (arith, count, c.count_of-earlier.ensures)) c.in_ok-act_all.ensures.ran c.in_ok-act_all.ensures.goes_on refuses)
    c.act_queues.ensures.refused

pub returns-clause-kept : goal.returns-clause-kept
returns-clause-kept g c = (c.in_ok-act_all.ensures.kept.0 ++ c.act_queues.ensures.kept.0, c.act_queues.ensures.kept.1 ∙ ap (λ skips. skips ++ c.act_queues.ensures.kept.0) c.in_ok-act_all.ensures.kept.1 ∙ append_assoc c.args.skips.now.items c.in_ok-act_all.ensures.kept.0 c.act_queues.ensures.kept.0)
