use Rattle.specs_saveload.proofs.ImageLemmas.{unmarked-named}
use Rattle.specs_saveload.proofs.laws.an_unmarked_refusal_names_one.Goals as goal

pub returns : goal.returns
returns g c is =
    unmarked-named g.S.SerializeComponents.plain g.S.SerializeComponents.refers_to g.met.S.SerializeComponents.named (g.S.SerializeComponents.parts_at c.args.storages.now) c.args.entities.now (g.M.Storage.UnprotectedStorage.part_at c.args.markers.now.inner) (c.serialize.ensures.unmarked is)
