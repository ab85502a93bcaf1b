use Rattle.std.proofs.Common.{◌∙◌, ap, Some}
use Rattle.std.specs.FinMap as slots
use Rattle.scene_world.specs.Stores.{store_part}
use Rattle.scene_basics.specs.declared.values.Value.TheVariants.{OwnersValue}
use Rattle.scene_basics.proofs.columns.register_owners.Goals as goal

pub returns-in-Ok : goal.returns-in-Ok
returns-in-Ok c = record {
  owners = c.new-owners.result;
  none = λ index. ap (λ s. store_part s.inner index) c.new-owners.ensures ∙ c.scene_storage.ensures.none index;
  put = c.in-Ok.ensures.ok ∙ ap (λ id. slots.insert c.args.world.now id (Some (OwnersValue c.new-owners.result))) c.part_id.ensures;
}
