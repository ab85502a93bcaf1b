use Rattle.std.proofs.Common.{refl}
use Rattle.scene_world.proofs.CallerLemmas.{shown-taken, shown-kept}
use Rattle.scene_basics.specs.Columns.{whole_stored, number_column, number_events, number_emits}
use Rattle.scene_basics.specs.declared.values.Value.TheVariants.{NumbersValue}
use Rattle.scene_basics.proofs.ColumnLemmas.{has-numbers}
use Rattle.scene_basics.proofs.columns.take_number.Goals as goal

pub returns-in-Ok-clause-shown : goal.returns-in-Ok-clause-shown
returns-in-Ok-clause-shown c = shown-taken whole_stored number_column number_events number_emits c.args.value.now (NumbersValue c.drop.new.self) c.in-NumbersValue.numbers c.drop.new.self (has-numbers _ _ c.in-NumbersValue.is) (has-numbers _ _ refl) c.args.index c.in-Ok.ensures.ok c.in-Ok.ensures.events c.in-Ok.ensures.emission

pub returns-in-Err-clause-shown : goal.returns-in-Err-clause-shown
returns-in-Err-clause-shown c = shown-kept whole_stored number_column number_events number_emits c.args.value.now (NumbersValue c.drop.new.self) c.in-NumbersValue.numbers c.drop.new.self (has-numbers _ _ c.in-NumbersValue.is) (has-numbers _ _ refl) c.in-Err.ensures.err c.in-Err.ensures.silent c.in-Err.ensures.emission
