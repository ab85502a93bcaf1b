use Rattle.std.proofs.Common.{◌∙◌, ap, Some}
use Rattle.std.specs.FinMap as slots
use Rattle.scene_world.specs.Stores.{store_part}
use Rattle.scene_basics.specs.declared.values.Value.TheVariants.{NumbersValue}
use Rattle.scene_basics.proofs.columns.register_numbers.Goals as goal

pub returns-in-Ok : goal.returns-in-Ok
returns-in-Ok c = record {
  numbers = c.new-numbers.result;
  none = λ index. ap (λ s. store_part s.inner index) c.new-numbers.ensures ∙ c.scene_storage.ensures.none index;
  put = c.in-Ok.ensures.ok ∙ ap (λ id. slots.insert c.args.world.now id (Some (NumbersValue c.new-numbers.result))) c.part_id.ensures;
}
