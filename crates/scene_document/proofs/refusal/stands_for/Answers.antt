use Rattle.std.proofs.Common.{refl, ap, sym, ◌∙◌}
use Rattle.scene_model.specs.Declaring.{texts}
use Rattle.scene_document.specs.Refusals.{stands_for}
use Rattle.scene_document.proofs.RefusalLemmas.{stands_at}
use Rattle.scene_document.proofs.refusal.stands_for.Goals as goal

pub returns-then-place-names : goal.returns-then-place-names
returns-then-place-names g c =
    c.eq.ensures ∙ stands_at c.args.names.now c.in-Some.place c.args.name.now _ refl c.if-place-names.true
    ∙ sym (ap (stands_for (texts c.args.names.now) c.args.name.now) c.in-Some.is)
