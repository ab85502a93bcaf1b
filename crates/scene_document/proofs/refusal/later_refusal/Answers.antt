use Rattle.std.proofs.Common.{◌≡◌, Some, None, ap, sym, ◌∙◌}
use Rattle.scene_model.specs.Declaring.{texts}
use Rattle.scene_document.specs.Refusals.{system_refusal, number_refusal}
use Rattle.scene_document.proofs.RefusalLemmas.{first_refusal, later_refusal-none}
use Rattle.scene_document.proofs.refusal.later_refusal.Goals as goal

pub returns-in-None : goal.returns-in-None
returns-in-None g c =
    let names = texts c.args.names.now in
    let draft = c.args.draft.now in
    let none : system_refusal names draft.globals.items draft.entries.items ≡ None =
    ap (λ all. system_refusal names all draft.entries.items) (sym c.deref.ensures.value) ∙ ap (λ all. system_refusal names c.deref.result.now all) (sym c.deref-2.ensures.value) ∙ sym c.in_ok-found.ensures ∙ c.in-None.is in
    c.number_refusal.ensures ∙ later_refusal-none (system_refusal names draft.globals.items draft.entries.items) (number_refusal c.args.limits.indices draft) none

pub returns-in-Some : goal.returns-in-Some
returns-in-Some g c =
    let names = texts c.args.names.now in
    let draft = c.args.draft.now in
    let some : system_refusal names draft.globals.items draft.entries.items ≡ Some c.in-Some.found =
    ap (λ all. system_refusal names all draft.entries.items) (sym c.deref.ensures.value) ∙ ap (λ all. system_refusal names c.deref.result.now all) (sym c.deref-2.ensures.value) ∙ sym c.in_ok-found.ensures ∙ c.in-Some.is in
    first_refusal (system_refusal names draft.globals.items draft.entries.items) (number_refusal c.args.limits.indices draft) c.in-Some.found some
