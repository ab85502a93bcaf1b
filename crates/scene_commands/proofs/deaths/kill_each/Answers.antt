use Rattle.std.proofs.Common.{take, get_or, sym, subst}
use Rattle.std.proofs.lemmas.List.{take_all, take_more}
use Rattle.scene_world.specs.Places.{kinds_of}
use Rattle.scene_commands.specs.Owning.{HaveDied}
use Rattle.scene_commands.proofs.DyingLemmas.{died-none, died-more}
use Rattle.scene_commands.proofs.deaths.kill_each.Goals as goal

pub loop-id-init : goal.loop-id-init
loop-id-init g c = died-none (kinds_of g.R.Value.SceneValue.places g.R.DocumentRules.part_of g.R.WorldRules.columns) c.args.world.now c.requires

pub kill_one-requires : goal.kill_one-requires
kill_one-requires g c = c.loop-id.invariant.may

pub loop-id-preserved : goal.loop-id-preserved
loop-id-preserved g c =
    subst (λ ids. HaveDied (kinds_of g.R.Value.SceneValue.places g.R.DocumentRules.part_of g.R.WorldRules.columns) ids c.args.world.now c.kill_one.new.world)
    (sym (take_more c.args.ids.now c.loop-id.id-index 0 c.loop-id-test.true))
    (died-more (kinds_of g.R.Value.SceneValue.places g.R.DocumentRules.part_of g.R.WorldRules.columns) (take c.loop-id.id-index c.args.ids.now) (get_or c.args.ids.now c.loop-id.id-index 0) c.args.world.now c.loop-id.world c.kill_one.new.world c.loop-id.invariant c.in_ok-kill_one.ensures)

pub returns : goal.returns
returns g c = subst (λ ids. HaveDied (kinds_of g.R.Value.SceneValue.places g.R.DocumentRules.part_of g.R.WorldRules.columns) ids c.args.world.now c.loop-id.world) (take_all c.loop-id.id-index c.args.ids.now c.loop-id-test.false) c.loop-id.invariant
