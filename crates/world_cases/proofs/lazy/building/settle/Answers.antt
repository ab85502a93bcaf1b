use Rattle.std.proofs.Common.{refl}
use Rattle.specs_world.proofs.CallerLemmas.{settles}
use Rattle.world_cases.proofs.lazy.building.settle.Goals as goal

pub returns-in-Ok : goal.returns-in-Ok
returns-in-Ok g c =
    settles refl (λ _. refl) (λ _. refl) (λ _ _ _ gone. (gone.0, gone.1, gone.2.parts)) _ _ _ _ _ 8 c.maintain.ensures.maintains c.in-Ok.is
