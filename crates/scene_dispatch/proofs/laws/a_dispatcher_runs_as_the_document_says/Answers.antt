use Rattle.std.proofs.Common.{◌≡◌, ◌++◌, map, sym, subst}
use Rattle.shred.specs.Dispatchers.{dispatcher_of}
use Rattle.scene_document.specs.Openings.{frames_of}
use Rattle.scene_world.specs.Chains.{plan_order, PlanIsLent}
use Rattle.scene_dispatch.specs.Entries.{meant_at}
use Rattle.scene_dispatch.specs.Asked.{IsDraftedOf}
use Rattle.scene_dispatch.proofs.BuiltLemmas.{built-systems, built-meant, built-order, built-lent}
use Rattle.scene_dispatch.proofs.SameLemmas.{same-ids}
use Rattle.scene_dispatch.proofs.laws.a_dispatcher_runs_as_the_document_says.Goals as goal

pub returns-clause-systems : goal.returns-clause-systems
returns-clause-systems g c kinds plain plain_local entries drafting is = built-systems kinds plain _ entries drafting.building is.building

pub returns-clause-meant : goal.returns-clause-meant
returns-clause-meant g c kinds plain plain_local entries drafting is = built-meant kinds plain _ entries drafting.building is.building

pub returns-clause-order : goal.returns-clause-order
returns-clause-order g c kinds plain plain_local draft drafting frame apart known named =
    subst
    (λ same. IsDraftedOf kinds same plain plain_local draft.entries drafting
    → plan_order (meant_at draft.entries) (dispatcher_of drafting).staging.planning.stages ++ map plain_local (dispatcher_of drafting).locals ≡ (frames_of draft frame).order)
    (sym same-ids) (λ is. built-order kinds plain plain_local apart draft known named drafting is frame)

pub returns-clause-lent : goal.returns-clause-lent
returns-clause-lent g c kinds plain plain_local draft drafting apart known named =
    subst (λ same. IsDraftedOf kinds same plain plain_local draft.entries drafting → PlanIsLent kinds (meant_at draft.entries) (dispatcher_of drafting).staging.planning.stages)
    (sym same-ids) (built-lent kinds plain plain_local apart draft known named drafting)
