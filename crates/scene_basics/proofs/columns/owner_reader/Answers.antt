use Rattle.std.proofs.Common.{refl}
use Rattle.scene_world.proofs.CallerLemmas.{reader-gained}
use Rattle.scene_basics.specs.Columns.{owner_stored, owner_column, owner_events, owner_emits}
use Rattle.scene_basics.specs.declared.values.Value.TheVariants.{OwnersValue}
use Rattle.scene_basics.proofs.ColumnLemmas.{has-owners}
use Rattle.scene_basics.proofs.columns.owner_reader.Goals as goal

pub returns-in-Ok-clause-ok : goal.returns-in-Ok-clause-ok
returns-in-Ok-clause-ok c = reader-gained owner_stored owner_column owner_events owner_emits c.args.value.now (OwnersValue c.gain_reader.new.storage) c.in-OwnersValue.owners c.gain_reader.new.storage (has-owners _ _ c.in-OwnersValue.is) (has-owners _ _ refl) c.in-Ok.reader c.in-Ok.ensures.ok
