use Rattle.scene_dispatch.proofs.LawLemmas.{systems-alone}
use Rattle.scene_dispatch.proofs.laws.without_batches_a_plan_is_its_systems.Goals as goal

pub returns : goal.returns
returns g c stages before after refused none runs = systems-alone g.S.System.meets g.B.System.meets stages before after refused none runs
