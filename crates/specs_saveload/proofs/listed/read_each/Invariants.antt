use Rattle.std.proofs.Common.{◌≡◌, All, map, take, true}
use Rattle.serde_json.specs.View.{view}
use Rattle.specs_saveload.proofs.listed.read_each.Given as goal

-- the items before the number are the forms of what was read
abbrev pub invariant-loop-number : goal.invariant-loop-number
invariant-loop-number g l = record {
  read : map g.T.JsonForm.form l.values.items ≡ map view (take l.number l.items);
  fits : All g.T.JsonForm.is_value l.values.items;
  forms : All (λ d. g.T.JsonForm.is_form d ≡ true) (map view (take l.number l.items));
}
