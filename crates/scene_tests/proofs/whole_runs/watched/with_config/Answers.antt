use Rattle.std.proofs.Common.{◌≡◌, true, cond, is_some, refl, ◌∙◌, ap, sym}
use Rattle.serde_json.specs.View.{view}
use Rattle.serde_json.specs.Find.{as_null}
use Rattle.scene_model.specs.Rulebook.{known, misshapen}
use Rattle.scene_world.specs.RuleLemmas.{null-as_null}
use Rattle.scene_tests.specs.Watched.{mover_access}
use Rattle.scene_tests.proofs.whole_runs.watched.with_config.Goals as goal

pub returns-then-is_null : goal.returns-then-is_null
returns-then-is_null c =
    let null : is_some (as_null (view c.args.config.now)) ≡ true = sym c.is_null.ensures ∙ c.if-is_null.true in (
      record { access = mover_access c.args.system; time = 3 },
      ap (λ b. cond b (known (record { access = mover_access c.args.system; time = 3 })) misshapen) null,
      record { made_so = tt; of_kind = refl; with_config = null-as_null (view c.args.config.now) null; access = refl; time = refl },
    )
