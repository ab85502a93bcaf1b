use Rattle.std.proofs.Common.{◌∙◌, ap, sym, rules, FitsSigned}
use Rattle.std.specs.Int.{w64}
use Rattle.scene_basics.specs.declared.data.Datum.{Datum}
use Rattle.scene_basics.specs.Numbers.{part_of, admits}
use Rattle.scene_basics.specs.RuleLaws.{admits-counting}
use Rattle.scene_basics.proofs.rules.BasicsDocumentRules.admits.Goals as goal

pub returns-in-Whole : goal.returns-in-Whole
returns-in-Whole c =
    let fits : FitsSigned w64 c.in-Whole._whole = search rules in
    c.is_number_kind.ensures ∙ (admits-counting c.args.kind.now c.in-Whole._whole fits ∙ ap (λ (datum : Datum). admits c.args.kind.now (part_of datum)) (sym c.in-Whole.is))
