use Rattle.std.proofs.Common.{◌≡◌, sym, subst}
use Rattle.shred_plan.specs.Plan.{conflict}
use Rattle.scene_document.specs.Openings.{same_resource}
use Rattle.scene_dispatch.proofs.ConflictLemmas.{conflicts-same}
use Rattle.scene_dispatch.proofs.SameLemmas.{same-ids}
use Rattle.scene_dispatch.proofs.laws.systems_conflict_by_what_they_declare.Goals as goal

pub returns : goal.returns
returns g c kinds access another position place one two other second apart known knows differ first next =
    subst (λ same. conflict same_resource one two ≡ conflict same other second) (sym same-ids) (conflicts-same kinds apart access another known knows position place differ one two other second first next)
