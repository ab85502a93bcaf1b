use Rattle.std.proofs.Common.{◌≡◌, true, cond, is_some, refl, ◌∙◌, ap, sym}
use Rattle.serde_json.specs.View.{view}
use Rattle.serde_json.specs.Find.{as_null}
use Rattle.scene_model.specs.Rulebook.{known, misshapen}
use Rattle.scene_cases.specs.Drifting.{drift_facts}
use Rattle.scene_world.specs.RuleLemmas.{null-as_null}
use Rattle.scene_cases.proofs.turns.documents.with_config.Goals as goal

pub returns-then-is_null : goal.returns-then-is_null
returns-then-is_null c =
    let null : is_some (as_null (view c.args.config.now)) ≡ true = sym c.is_null.ensures ∙ c.if-is_null.true in (
      drift_facts,
      ap (λ b. cond b (known drift_facts) misshapen) null,
      record { made_so = tt; of_kind = refl; with_config = null-as_null (view c.args.config.now) null; access = refl; time = refl },
    )
