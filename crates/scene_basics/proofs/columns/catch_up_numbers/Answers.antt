use Rattle.std.proofs.Common.{refl}
use Rattle.scene_world.proofs.CallerLemmas.{reader-caught}
use Rattle.scene_basics.specs.Columns.{whole_stored, number_column, number_events, number_emits}
use Rattle.scene_basics.specs.declared.values.Value.TheVariants.{NumbersValue}
use Rattle.scene_basics.proofs.ColumnLemmas.{has-numbers}
use Rattle.scene_basics.proofs.columns.catch_up_numbers.Goals as goal

pub returns : goal.returns
returns c = reader-caught whole_stored number_column number_events number_emits c.args.value.now (NumbersValue c.catch_up_reader.new.storage) c.in-NumbersValue.numbers c.catch_up_reader.new.storage (has-numbers _ _ c.in-NumbersValue.is) (has-numbers _ _ refl) c.args.reader.now c.catch_up_reader.ensures
