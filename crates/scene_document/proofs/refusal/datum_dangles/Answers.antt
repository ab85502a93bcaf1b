use Rattle.std.proofs.Common.{ap, sym, not, ◌∙◌}
use Rattle.std.specs.List.{list_any}
use Rattle.scene_model.specs.Scenes.{lives}
use Rattle.scene_model.specs.Commands.{ref_lives}
use Rattle.scene_document.specs.Refusals.{datum_dangles}
use Rattle.scene_document.proofs.RefusalLemmas.{dangle-refs_to}
use Rattle.scene_document.proofs.refusal.datum_dangles.Goals as goal

pub returns : goal.returns
returns g c =
    let ids = c.args.ids.now in
    c.lacks_id.ensures ∙ ap (λ wanted. list_any (λ id. not (lives id ids)) wanted) c.deref.ensures.value
    ∙ sym (dangle-refs_to ids c.in_ok-refs.refs.items)
    ∙ ap (λ refs. list_any (λ ref. not (ref_lives ids ref)) refs) c.in_ok-refs.ensures
    ∙ sym (ap (datum_dangles g.R.DocumentRules.part_of ids) c.in-Some.is)
