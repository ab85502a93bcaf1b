use Rattle.std.proofs.lemmas.Result.{IfOk-weaker}
use Rattle.specs_saveload.proofs.ImageLemmas.{entry-among}
use Rattle.specs_saveload.proofs.laws.one_entity_is_saved_as_in_the_whole.Goals as goal

pub returns-clause-whole : goal.returns-clause-whole
returns-clause-whole g c =
    IfOk-weaker c.serialize_marked.result _ _
    (entry-among g.S.SerializeComponents.plain g.S.DeserializeComponents.markers_of g.met.S.DeserializeComponents.stands (g.S.SerializeComponents.parts_at c.args.storages.now) c.args.entities.now (g.M.Storage.UnprotectedStorage.part_at c.args.markers.now.inner) c.the_living_are_below_the_limit.ensures c.args.entity)
    c.serialize_marked.ensures.some
