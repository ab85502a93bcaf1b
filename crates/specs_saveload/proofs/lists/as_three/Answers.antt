use Rattle.std.proofs.Common.{List, length, ap, ◌∙◌}
use Rattle.serde_json.specs.declared.value.Value.{Value}
use Rattle.specs_saveload.specs.Plain.{is_three}
use Rattle.specs_saveload.proofs.ListLemmas.{list-test, not-three}
use Rattle.specs_saveload.proofs.lists.as_three.Goals as goal

pub returns-else-items-eq3 : goal.returns-else-items-eq3
returns-else-items-eq3 c =
    let items = c.as_slice-items.ensures.value in
    list-test is_three _ _ c.in_ok-as_array.ensures
    ∙ not-three c.in_ok-as_array.field-0.now.items (λ is. c.if-items-eq3.false (ap (λ (l : List Value). length l) items ∙ is))
