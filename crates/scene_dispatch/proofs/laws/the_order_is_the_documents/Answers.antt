use Rattle.std.proofs.Common.{◌≡◌, sym, subst}
use Rattle.shred_plan.specs.Plan.{plan}
use Rattle.scene_document.specs.Openings.{staged_systems}
use Rattle.scene_world.specs.Chains.{plan_order, PlanIsLent}
use Rattle.scene_dispatch.specs.Entries.{meant_at}
use Rattle.scene_dispatch.specs.Told.{told_entries}
use Rattle.scene_dispatch.proofs.OrderLemmas.{staged-order, staged-lent}
use Rattle.scene_dispatch.proofs.SameLemmas.{same-ids}
use Rattle.scene_dispatch.proofs.laws.the_order_is_the_documents.Goals as goal

pub returns-clause-order : goal.returns-clause-order
returns-clause-order g c kinds draft apart known =
    subst (λ same. plan_order (meant_at draft.entries) (plan same (told_entries kinds draft.entries)) ≡ staged_systems draft) (sym same-ids) (staged-order kinds apart draft known)

pub returns-clause-lent : goal.returns-clause-lent
returns-clause-lent g c kinds draft apart known =
    subst (λ same. PlanIsLent kinds (meant_at draft.entries) (plan same (told_entries kinds draft.entries))) (sym same-ids) (staged-lent kinds apart draft known)
