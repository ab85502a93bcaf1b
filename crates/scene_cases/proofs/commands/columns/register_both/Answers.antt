use Rattle.std.proofs.Common.{◌∙◌, ap, sym, subst}
use Rattle.std.specs.FinMap as slots
use Rattle.std.specs.Result.{OnOk}
use Rattle.std.specs.Prelude.{Some}
use Rattle.scene_world.specs.Stores.{store_part}
use Rattle.scene_world.specs.Putting.{Registers}
use Rattle.scene_cases.specs.Holdings.{rank_id}
use Rattle.scene_cases.specs.Owning.{owning_columns}
use Rattle.scene_cases.specs.declared.commands.values.Value.TheVariants.{RankValue}
use Rattle.scene_cases.proofs.OwnerColumnLemmas.{registers-both}
use Rattle.scene_cases.proofs.commands.columns.register_both.Goals.{in-Ok-insert, in-Err}
use Rattle.scene_cases.proofs.commands.columns.register_both.Goals as goal

pub returns : goal.returns
returns c = elim c.match-insert-2.branch [
  | in-Ok-insert w ↦ subst (λ r. OnOk r (Registers owning_columns c.args.world.now c.insert-2.new.self)) (sym w.result-is)
      (subst (Registers owning_columns c.args.world.now)
      (sym (w.in-Ok-insert.ensures.ok ∙ ap (λ m. slots.insert m rank_id (Some (RankValue c.new-ranks.result))) c.in-Ok.ensures.ok))
      (registers-both c.args.world.now c.new-owners.result c.new-ranks.result
      (λ index. ap (λ s. store_part s.inner index) c.new-owners.ensures ∙ c.scene_storage.ensures.none index)
      (λ index. ap (λ s. store_part s.inner index) c.new-ranks.ensures ∙ c.scene_storage-2.ensures.none index)))
  | in-Err w ↦ subst (λ r. OnOk r (Registers owning_columns c.args.world.now c.insert-2.new.self)) (sym w.result-is) tt
]
