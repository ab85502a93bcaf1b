use Rattle.scene_dispatch.proofs.ShapeLemmas.{one-shape, one-order}
use Rattle.scene_dispatch.proofs.laws.alike_lists_have_alike_plans.Goals as goal

pub returns-clause-shape : goal.returns-clause-shape
returns-clause-shape g c = one-shape g.K.PartialEq.eq g.L.PartialEq.eq

pub returns-clause-order : goal.returns-clause-order
returns-clause-order g c = one-order g.K.PartialEq.eq g.L.PartialEq.eq
