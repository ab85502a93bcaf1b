use Rattle.std.proofs.Common.{rules, refl, ◌∙◌}
use Rattle.specs_world.proofs.CallerLemmas.{builds}
use Rattle.world_cases.proofs.lazy.building.build.Goals as goal

pub returns-in-Ok : goal.returns-in-Ok
returns-in-Ok c =
    builds refl _ (λ _. refl) (λ _. refl) (c.build.ensures.value ∙ c.in-Ok.ensures.same_entity) (search rules)
    c.in_ok-builder.ensures.ok c.in-Ok.ensures.ok
