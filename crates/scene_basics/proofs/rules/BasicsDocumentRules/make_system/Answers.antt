use Rattle.std.proofs.Common.{◌≡◌, true, cond, Option, Some, is_some, ◌∙◌, ap, sym, refl}
use Rattle.serde_json.specs.View.{view}
use Rattle.serde_json.specs.Find.{as_null}
use Rattle.scene_model.specs.Rulebook.{known, misshapen}
use Rattle.scene_basics.specs.declared.data.BasicSystem.{BasicSystem}
use Rattle.scene_basics.specs.Systems.{system_named, configured, facts_of}
use Rattle.scene_world.specs.RuleLemmas.{null-as_null}
use Rattle.scene_basics.specs.RuleLaws.{kind_of-system_named}
use Rattle.scene_basics.proofs.rules.BasicsDocumentRules.make_system.Goals as goal

pub returns-then-is_null : goal.returns-then-is_null
returns-then-is_null c =
    let named : system_named c.args.kind.now ≡ Some c.in-Some.system = sym c.in-Some.ensures in
    let null : is_some (as_null (view c.args.config.now)) ≡ true = sym c.is_null.ensures ∙ c.if-is_null.true in
    (facts_of c.in-Some.system, ap (λ (found : Option BasicSystem). configured found (view c.args.config.now)) named ∙ ap (λ b. cond b (known (facts_of c.in-Some.system)) misshapen) null, record { made_so = tt; of_kind = kind_of-system_named c.args.kind.now c.in-Some.system named; with_config = null-as_null (view c.args.config.now) null; access = refl; time = refl })
