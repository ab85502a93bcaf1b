use Rattle.scene_world.proofs.ChainLemmas.{plan-comes}
use Rattle.scene_world.proofs.laws.a_plan_is_its_turns.Goals as goal

pub returns : goal.returns
returns g c at stages before after refused lent ready runs =
    plan-comes _ _ _ at _ (λ system left seen later why is turn. turn) stages lent before after refused ready runs
