use Rattle.std.proofs.Common.{List, length, ap, ◌∙◌}
use Rattle.serde_json.specs.declared.value.Value.{Value}
use Rattle.specs_saveload.specs.Plain.{is_four}
use Rattle.specs_saveload.proofs.ListLemmas.{list-test, not-four}
use Rattle.specs_saveload.proofs.lists.as_four.Goals as goal

pub returns-else-items-eq4 : goal.returns-else-items-eq4
returns-else-items-eq4 c =
    let items = c.as_slice-items.ensures.value in
    list-test is_four _ _ c.in_ok-as_array.ensures
    ∙ not-four c.in_ok-as_array.field-0.now.items (λ is. c.if-items-eq4.false (ap (λ (l : List Value). length l) items ∙ is))
