use Rattle.std.proofs.Common.{refl}
use Rattle.scene_world.proofs.CallerLemmas.{reader-caught}
use Rattle.scene_cases.specs.Drifting.{velocity_column, velocity_events, velocity_emits}
use Rattle.scene_cases.specs.declared.turns.values.Value.TheVariants.{VelocityValue}
use Rattle.scene_cases.proofs.DriftColumnLemmas.{velocity_stored, has-velocities}
use Rattle.scene_cases.proofs.turns.columns.catch_up_velocities.Goals as goal

pub returns : goal.returns
returns c = reader-caught velocity_stored velocity_column velocity_events velocity_emits c.args.value.now (VelocityValue c.catch_up_reader.new.storage) c.in-VelocityValue.velocities c.catch_up_reader.new.storage (has-velocities _ _ c.in-VelocityValue.is) (has-velocities _ _ refl) c.args.reader.now c.catch_up_reader.ensures
