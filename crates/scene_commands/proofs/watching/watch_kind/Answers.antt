use Rattle.std.proofs.lemmas.Result.{IfOk-weaker}
use Rattle.scene_world.specs.Places.{kinds_of}
use Rattle.scene_commands.proofs.LendLemmas.{lent-watch}
use Rattle.scene_commands.proofs.watching.watch_kind.Goals as goal

pub returns-in-Some : goal.returns-in-Some
returns-in-Some g c =
    IfOk-weaker c.watch_value.result _ _
    (lent-watch (kinds_of g.R.Value.SceneValue.places g.R.DocumentRules.part_of g.R.WorldRules.columns) c.args.world.now _ c.args.kind.now c.part_id.result c.part_id.ensures
    c.get_mut_raw.result c.in-Some.value c.in-Some.is c.get_mut_raw.ensures.value c.watch_value.new.value (c.get_mut_raw.follows.holds c.watch_value.new.value))
    c.watch_value.ensures
