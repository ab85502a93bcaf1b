use Rattle.std.proofs.Common.{refl}
use Rattle.scene_world.proofs.CallerLemmas.{reader-gained}
use Rattle.scene_cases.specs.Drifting.{velocity_column, velocity_events, velocity_emits}
use Rattle.scene_cases.specs.declared.turns.values.Value.TheVariants.{VelocityValue}
use Rattle.scene_cases.proofs.DriftColumnLemmas.{velocity_stored, has-velocities}
use Rattle.scene_cases.proofs.turns.columns.velocity_reader.Goals as goal

pub returns-in-Ok-clause-ok : goal.returns-in-Ok-clause-ok
returns-in-Ok-clause-ok c = reader-gained velocity_stored velocity_column velocity_events velocity_emits c.args.value.now (VelocityValue c.gain_reader.new.storage) c.in-VelocityValue.velocities c.gain_reader.new.storage (has-velocities _ _ c.in-VelocityValue.is) (has-velocities _ _ refl) c.in-Ok.reader c.in-Ok.ensures.ok
