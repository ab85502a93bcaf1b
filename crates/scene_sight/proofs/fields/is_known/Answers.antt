use Rattle.std.proofs.Common.{◌∙◌}
use Rattle.scene_document.proofs.CallerLemmas.{is_some-place_of}
use Rattle.scene_model.specs.Declaring.{texts}
use Rattle.scene_sight.proofs.fields.is_known.Goals as goal

pub returns : goal.returns
returns c = c.is_some.ensures ∙ rw c.place_in.ensures.place (is_some-place_of c.args.name.now (texts c.args.names.now))
