use Rattle.std.proofs.Common.{refl}
use Rattle.scene_world.proofs.CallerLemmas.{reader-gained}
use Rattle.scene_basics.specs.Columns.{whole_stored, number_column, number_events, number_emits}
use Rattle.scene_basics.specs.declared.values.Value.TheVariants.{NumbersValue}
use Rattle.scene_basics.proofs.ColumnLemmas.{has-numbers}
use Rattle.scene_basics.proofs.columns.number_reader.Goals as goal

pub returns-in-Ok-clause-ok : goal.returns-in-Ok-clause-ok
returns-in-Ok-clause-ok c = reader-gained whole_stored number_column number_events number_emits c.args.value.now (NumbersValue c.gain_reader.new.storage) c.in-NumbersValue.numbers c.gain_reader.new.storage (has-numbers _ _ c.in-NumbersValue.is) (has-numbers _ _ refl) c.in-Ok.reader c.in-Ok.ensures.ok
