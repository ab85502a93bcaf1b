use Rattle.scene_world.specs.Places.{kinds_of}
use Rattle.scene_commands.proofs.LendLemmas.{lent-reads}
use Rattle.scene_commands.proofs.catching.read_kind.Goals as goal

pub returns-in-Some : goal.returns-in-Some
returns-in-Some g c =
    lent-reads (kinds_of g.R.Value.SceneValue.places g.R.DocumentRules.part_of g.R.WorldRules.columns) c.args.world.now _ c.args.kind.now c.part_id.result c.part_id.ensures
    c.get_mut_raw.result c.in-Some.value c.in-Some.is c.get_mut_raw.ensures.value c.catch_up.new.value (c.get_mut_raw.follows.holds c.catch_up.new.value) c.args.reader.now c.catch_up.ensures
