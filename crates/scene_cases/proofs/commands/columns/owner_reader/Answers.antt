use Rattle.std.proofs.Common.{refl}
use Rattle.scene_world.proofs.CallerLemmas.{reader-gained}
use Rattle.scene_cases.specs.Owning.{owner_stored, owner_column, owner_events, owner_emits}
use Rattle.scene_cases.specs.declared.commands.values.Value.TheVariants.{OwnerValue}
use Rattle.scene_cases.proofs.OwnerColumnLemmas.{has-owners}
use Rattle.scene_cases.proofs.commands.columns.owner_reader.Goals as goal

pub returns-in-Ok-clause-ok : goal.returns-in-Ok-clause-ok
returns-in-Ok-clause-ok c = reader-gained owner_stored owner_column owner_events owner_emits c.args.value.now (OwnerValue c.gain_reader.new.storage) c.in-OwnerValue.owners c.gain_reader.new.storage (has-owners _ _ c.in-OwnerValue.is) (has-owners _ _ refl) c.in-Ok.reader c.in-Ok.ensures.ok
