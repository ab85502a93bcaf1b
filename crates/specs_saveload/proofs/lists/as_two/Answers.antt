use Rattle.std.proofs.Common.{List, length, ap, ◌∙◌}
use Rattle.serde_json.specs.declared.value.Value.{Value}
use Rattle.specs_saveload.specs.Plain.{is_two}
use Rattle.specs_saveload.proofs.ListLemmas.{list-test, not-two}
use Rattle.specs_saveload.proofs.lists.as_two.Goals as goal

pub returns-else-items-eq2 : goal.returns-else-items-eq2
returns-else-items-eq2 c =
    let items = c.as_slice-items.ensures.value in
    list-test is_two _ _ c.in_ok-as_array.ensures
    ∙ not-two c.in_ok-as_array.field-0.now.items (λ is. c.if-items-eq2.false (ap (λ (l : List Value). length l) items ∙ is))
