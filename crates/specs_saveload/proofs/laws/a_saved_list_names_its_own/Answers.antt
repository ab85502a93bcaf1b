use Rattle.std.proofs.lemmas.Result.{IfOk-weaker}
use Rattle.specs_saveload.proofs.ImageLemmas.{saved-apart, saved-own}
use Rattle.specs_saveload.proofs.laws.a_saved_list_names_its_own.Goals as goal

pub returns-clause-apart : goal.returns-clause-apart
returns-clause-apart g c =
    IfOk-weaker c.serialize.result _ _
    (λ list is differ. saved-apart g.S.SerializeComponents.plain g.S.DeserializeComponents.markers_of g.met.S.DeserializeComponents.stands (g.S.SerializeComponents.parts_at c.args.storages.now) c.args.entities.now (g.M.Storage.UnprotectedStorage.part_at c.args.markers.now.inner) c.the_living_are_below_the_limit.ensures list.items is differ)
    c.serialize.ensures.ok

pub returns-clause-own : goal.returns-clause-own
returns-clause-own g c =
    IfOk-weaker c.serialize.result _ _
    (λ list is. saved-own g.S.SerializeComponents.plain g.S.DeserializeComponents.markers_of g.met.S.DeserializeComponents.stands (g.S.SerializeComponents.parts_at c.args.storages.now) c.args.entities.now (g.M.Storage.UnprotectedStorage.part_at c.args.markers.now.inner) c.the_living_are_below_the_limit.ensures list.items is)
    c.serialize.ensures.ok
