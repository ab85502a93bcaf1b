use Rattle.std.proofs.Common.{refl}
use Rattle.scene_world.proofs.CallerLemmas.{reader-caught}
use Rattle.scene_cases.specs.Owning.{owner_stored, owner_column, owner_events, owner_emits}
use Rattle.scene_cases.specs.declared.commands.values.Value.TheVariants.{OwnerValue}
use Rattle.scene_cases.proofs.OwnerColumnLemmas.{has-owners}
use Rattle.scene_cases.proofs.commands.columns.catch_up_owners.Goals as goal

pub returns : goal.returns
returns c = reader-caught owner_stored owner_column owner_events owner_emits c.args.value.now (OwnerValue c.catch_up_reader.new.storage) c.in-OwnerValue.owners c.catch_up_reader.new.storage (has-owners _ _ c.in-OwnerValue.is) (has-owners _ _ refl) c.args.reader.now c.catch_up_reader.ensures
