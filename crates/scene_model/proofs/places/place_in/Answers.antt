use Rattle.std.proofs.Common.{sym}
use Rattle.std.specs.Str.{bytes_eq}
use Rattle.scene_model.proofs.NameLemmas.{position_from-map}
use Rattle.scene_model.proofs.places.place_in.Goals as goal

pub returns-clause-place : goal.returns-clause-place
returns-clause-place c = rw c.place_among.ensures.place (sym (position_from-map (λ other. other.now) (λ other. bytes_eq other c.args.name.now) 0 c.args.names.now))
