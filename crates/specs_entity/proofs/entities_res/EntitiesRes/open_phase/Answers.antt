use Rattle.std.proofs.Common.{◌≡◌, sym, ap, ◌∙◌, inl, refl}
use Rattle.specs_entity.specs.declared.phase_rule.PhaseKey.{PhaseKey}
use Rattle.specs_entity.specs.PhaseViews.{whole_view}
use Rattle.specs_entity.specs.SharedPhase.{SharedPhase}
use Rattle.specs_entity.proofs.PhaseHandLemmas.{unused-settled}
use Rattle.specs_entity.proofs.entities_res.EntitiesRes.open_phase.Goals as goal

pub returns-in-Ok-settle : goal.returns-in-Ok-settle
returns-in-Ok-settle c =
    let opened = c.in_ok-shared.ensures in
    let back : c.in-Err.field-0.value ≡ c.in_ok-shared.shared = c.in-Err.ensures.value_returned in (
      unused-settled c.in-Err.field-0.value.key _ _ (opened.1 ∙ ap (λ (s : SharedPhase). whole_view s.key) (sym back)) c.in-Ok-settle.ensures.ok ∙ (ap (λ (s : SharedPhase). s.key.before) back ∙ opened.2),
      inl refl,
    )
