use Rattle.std.proofs.Common.{List, length, ap, ◌∙◌}
use Rattle.serde_json.specs.declared.value.Value.{Value}
use Rattle.specs_saveload.specs.Plain.{is_one}
use Rattle.specs_saveload.proofs.ListLemmas.{list-test, not-one}
use Rattle.specs_saveload.proofs.lists.as_one.Goals as goal

pub returns-else-items-eq1 : goal.returns-else-items-eq1
returns-else-items-eq1 c =
    let items = c.as_slice-items.ensures.value in
    list-test is_one _ _ c.in_ok-as_array.ensures
    ∙ not-one c.in_ok-as_array.field-0.now.items (λ is. c.if-items-eq1.false (ap (λ (l : List Value). length l) items ∙ is))
