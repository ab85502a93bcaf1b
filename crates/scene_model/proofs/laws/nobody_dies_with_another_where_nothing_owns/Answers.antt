use Rattle.std.proofs.Common.{eqb, []}
use Rattle.scene_model.proofs.DeathLemmas.{least-killed, nobody-else}
use Rattle.scene_model.proofs.laws.nobody_dies_with_another_where_nothing_owns.Goals as goal

pub returns : goal.returns
returns c scene id alive = least-killed [] scene id (λ one. eqb one id) (nobody-else scene id) alive
