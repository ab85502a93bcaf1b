use Rattle.scene_model.specs.Declaring.{texts}
use Rattle.scene_document.proofs.ShapeLemmas.{known_at-place_of}
use Rattle.scene_document.proofs.shape.fields.known_place.Goals as goal

pub returns : goal.returns
returns c = known_at-place_of c.args.name.now (texts c.args.names.now) c.place_in.result c.place_in.ensures.place
