use Rattle.std.proofs.Common.{None}
use Rattle.std.proofs.lemmas.Result.{on_ok_weaker}
use Rattle.scene_world.specs.Places.{kinds_of}
use Rattle.scene_commands.proofs.LendLemmas.{lent-column}
use Rattle.scene_commands.proofs.parts.take_at.Goals as goal

pub returns-in-Some : goal.returns-in-Some
returns-in-Some g c =
    on_ok_weaker c.take.result
    (lent-column (kinds_of g.R.Value.SceneValue.places g.R.DocumentRules.part_of g.R.WorldRules.columns) c.args.world.now _ c.args.kind.now c.part_id.result c.part_id.ensures
    c.get_mut_raw.result c.in-Some.value c.in-Some.is c.get_mut_raw.ensures.value c.take.new.value (c.get_mut_raw.follows.holds c.take.new.value) c.args.index None c.take.ensures.shown)
    c.take.ensures.ok
