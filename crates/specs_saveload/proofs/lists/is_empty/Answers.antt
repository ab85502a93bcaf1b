use Rattle.std.proofs.Common.{List, length, ◌==◌, ap, sym, ◌∙◌}
use Rattle.serde_json.specs.declared.value.Value.{Value}
use Rattle.specs_saveload.specs.Plain.{is_none}
use Rattle.specs_saveload.proofs.ListLemmas.{list-test, is-none}
use Rattle.specs_saveload.proofs.lists.is_empty.Goals as goal

pub returns-in-Some : goal.returns-in-Some
returns-in-Some c =
    c.is_empty.ensures
    ∙ (ap (λ (l : List Value). length l == 0) c.as_slice.ensures.value
    ∙ (is-none c.in-Some.items.now.items ∙ sym (list-test is_none _ _ c.in-Some.ensures)))
