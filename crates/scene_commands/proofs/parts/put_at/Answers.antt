use Rattle.std.proofs.lemmas.Result.{on_ok_weaker}
use Rattle.scene_world.specs.Places.{kinds_of}
use Rattle.scene_commands.proofs.LendLemmas.{lent-part}
use Rattle.scene_commands.proofs.parts.put_at.Goals as goal

pub returns-in-Some : goal.returns-in-Some
returns-in-Some g c =
    on_ok_weaker c.put.result
    (lent-part (kinds_of g.R.Value.SceneValue.places g.R.DocumentRules.part_of g.R.WorldRules.columns) c.args.world.now _ c.args.kind.now c.part_id.result c.part_id.ensures
    c.get_mut_raw.result c.in-Some.value c.in-Some.is c.get_mut_raw.ensures.value c.put.new.value (c.get_mut_raw.follows.holds c.put.new.value) c.args.index _ _ c.put.ensures.shown)
    c.put.ensures.ok
