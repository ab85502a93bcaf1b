use Rattle.std.proofs.Common.{refl}
use Rattle.scene_world.proofs.CallerLemmas.{shown-taken, shown-kept}
use Rattle.scene_cases.specs.Drifting.{velocity_column, velocity_events, velocity_emits}
use Rattle.scene_cases.specs.declared.turns.values.Value.TheVariants.{VelocityValue}
use Rattle.scene_cases.proofs.DriftColumnLemmas.{velocity_stored, has-velocities}
use Rattle.scene_cases.proofs.turns.columns.take_velocity.Goals as goal

pub returns-in-Ok-clause-shown : goal.returns-in-Ok-clause-shown
returns-in-Ok-clause-shown c = shown-taken velocity_stored velocity_column velocity_events velocity_emits c.args.value.now (VelocityValue c.drop.new.self) c.in-VelocityValue.velocities c.drop.new.self (has-velocities _ _ c.in-VelocityValue.is) (has-velocities _ _ refl) c.args.index c.in-Ok.ensures.ok c.in-Ok.ensures.events c.in-Ok.ensures.emission

pub returns-in-Err-clause-shown : goal.returns-in-Err-clause-shown
returns-in-Err-clause-shown c = shown-kept velocity_stored velocity_column velocity_events velocity_emits c.args.value.now (VelocityValue c.drop.new.self) c.in-VelocityValue.velocities c.drop.new.self (has-velocities _ _ c.in-VelocityValue.is) (has-velocities _ _ refl) c.in-Err.ensures.err c.in-Err.ensures.silent c.in-Err.ensures.emission
