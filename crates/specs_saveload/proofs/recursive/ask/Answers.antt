use Rattle.std.proofs.Common.{ap, refl, ◌∙◌}
use Rattle.std.specs.Prelude.{option_map}
use Rattle.specs_saveload.proofs.AskLemmas.{asks-marked, some-dead, some-marked, some-refused}
use Rattle.specs_saveload.proofs.recursive.ask.Goals as goal

pub returns-in-Ok-Some-default-true-clause-leaves : goal.returns-in-Ok-Some-default-true-clause-leaves
returns-in-Ok-Some-default-true-clause-leaves g c =
    let step = c.in-Ok-Some-default-true in
    some-marked _ _ _ _ _ _ _ _ _ _ (asks-marked _ _ _ _ _ _ _ _ _ _ step.ensures.ok (ap (option_map (λ mark. mark.1)) step.field-0-is))

pub returns-in-Ok-None-clause-leaves : goal.returns-in-Ok-None-clause-leaves
returns-in-Ok-None-clause-leaves g c = some-dead _ _ _ _ _ _ _ _ _ _ (rw c.in-Ok-None.field-0-is at c.in-Ok-None.ensures.ok)

pub returns-clause-leaves : goal.returns-clause-leaves
returns-clause-leaves g c = some-refused _ _ _ _ _ _ _ _ _ _ c.in-Err.ensures.alive c.in-Err.ensures.refused c.in-Err.ensures.untold
