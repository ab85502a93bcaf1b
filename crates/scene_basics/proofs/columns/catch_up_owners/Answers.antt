use Rattle.std.proofs.Common.{refl}
use Rattle.scene_world.proofs.CallerLemmas.{reader-caught}
use Rattle.scene_basics.specs.Columns.{owner_stored, owner_column, owner_events, owner_emits}
use Rattle.scene_basics.specs.declared.values.Value.TheVariants.{OwnersValue}
use Rattle.scene_basics.proofs.ColumnLemmas.{has-owners}
use Rattle.scene_basics.proofs.columns.catch_up_owners.Goals as goal

pub returns : goal.returns
returns c = reader-caught owner_stored owner_column owner_events owner_emits c.args.value.now (OwnersValue c.catch_up_reader.new.storage) c.in-OwnersValue.owners c.catch_up_reader.new.storage (has-owners _ _ c.in-OwnersValue.is) (has-owners _ _ refl) c.args.reader.now c.catch_up_reader.ensures
