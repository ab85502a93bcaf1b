use Rattle.std.proofs.Common.{refl}
use Rattle.specs_world.proofs.CallerLemmas.{registered-first}
use Rattle.world_cases.proofs.lazy.building.stock.Goals as goal

pub returns : goal.returns
returns c = registered-first refl _ _ (λ _. refl) c.in_ok-world.ensures.ok c.in_ok-register.ensures.ok
