use Rattle.std.proofs.Common.{rules, sym, subst, ◌∙◌}
use Rattle.specs_world.specs.Resources.{IsBirth}
use Rattle.world_cases.proofs.building.build_bare.Goals as goal

-- what the world is once its builder is done with, `search` finds
pub returns-in-Ok-clause-ok : goal.returns-in-Ok-clause-ok
returns-in-Ok-clause-ok g c =
    let born = c.in-Ok.ensures.ok in
    (born.0, born.1, born.2, subst (λ entity. IsBirth entity born.0 born.1) (sym c.build.ensures.value) born.3, search rules ∙ born.4)
