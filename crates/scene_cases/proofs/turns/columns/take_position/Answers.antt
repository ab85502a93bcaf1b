use Rattle.std.proofs.Common.{refl}
use Rattle.scene_world.proofs.CallerLemmas.{shown-taken, shown-kept}
use Rattle.scene_cases.specs.Drifting.{position_column, position_events, position_emits}
use Rattle.scene_cases.specs.declared.turns.values.Value.TheVariants.{PositionValue}
use Rattle.scene_cases.proofs.DriftColumnLemmas.{position_stored, has-positions}
use Rattle.scene_cases.proofs.turns.columns.take_position.Goals as goal

pub returns-in-Ok-clause-shown : goal.returns-in-Ok-clause-shown
returns-in-Ok-clause-shown c = shown-taken position_stored position_column position_events position_emits c.args.value.now (PositionValue c.drop.new.self) c.in-PositionValue.positions c.drop.new.self (has-positions _ _ c.in-PositionValue.is) (has-positions _ _ refl) c.args.index c.in-Ok.ensures.ok c.in-Ok.ensures.events c.in-Ok.ensures.emission

pub returns-in-Err-clause-shown : goal.returns-in-Err-clause-shown
returns-in-Err-clause-shown c = shown-kept position_stored position_column position_events position_emits c.args.value.now (PositionValue c.drop.new.self) c.in-PositionValue.positions c.drop.new.self (has-positions _ _ c.in-PositionValue.is) (has-positions _ _ refl) c.in-Err.ensures.err c.in-Err.ensures.silent c.in-Err.ensures.emission
