use Rattle.std.proofs.Common.{refl}
use Rattle.std.proofs.lemmas.Result.{on_ok_weaker}
use Rattle.specs_world.proofs.CallerLemmas.{kills}
use Rattle.world_cases.proofs.lazy.building.kill.Goals as goal

pub returns : goal.returns
returns c =
    on_ok_weaker _ (kills refl (λ _. refl) (λ _. refl) (λ _ _ _ gone. (gone.0, gone.1, gone.2.parts))) c.delete_entity.ensures.ok
