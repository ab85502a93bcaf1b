use Rattle.std.proofs.Common.{◌≡◌, true, cond, Option, Some, is_some, ◌∙◌, ap, sym, refl}
use Rattle.serde_json.specs.View.{view}
use Rattle.serde_json.specs.Find.{as_null}
use Rattle.scene_model.specs.Rulebook.{Facts, known, misshapen}
use Rattle.scene_world.specs.PlainRules.{configured, found-kind, named_among}
use Rattle.scene_world.specs.RuleLemmas.{null-as_null}
use Rattle.duel.specs.declared.documents.DuelSystem.{DuelSystem}
use Rattle.duel.specs.Documents.{access_of, all_systems, kind_of}
use Rattle.duel.proofs.documents.DuelDocumentRules.make_system.Goals as goal

pub returns-then-is_null : goal.returns-then-is_null
returns-then-is_null c =
    let system : DuelSystem = c.in-Some.system in
    let facts : Facts = record { access = access_of system; time = 3 } in
    let named : named_among kind_of all_systems c.args.kind.now ≡ Some system = sym c.in-Some.ensures in
    let null : is_some (as_null (view c.args.config.now)) ≡ true = sym c.is_null.ensures ∙ c.if-is_null.true in (
      facts,
      ap (λ (found : Option DuelSystem). configured access_of found (view c.args.config.now)) named ∙ ap (λ b. cond b (known facts) misshapen) null,
      record { made_so = tt; of_kind = found-kind kind_of all_systems c.args.kind.now system named; with_config = null-as_null (view c.args.config.now) null; access = refl; time = refl },
    )
