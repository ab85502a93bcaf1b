use Rattle.std.proofs.Common.{refl}
use Rattle.scene_world.proofs.CallerLemmas.{reader-gained}
use Rattle.scene_cases.specs.Drifting.{position_column, position_events, position_emits}
use Rattle.scene_cases.specs.declared.turns.values.Value.TheVariants.{PositionValue}
use Rattle.scene_cases.proofs.DriftColumnLemmas.{position_stored, has-positions}
use Rattle.scene_cases.proofs.turns.columns.position_reader.Goals as goal

pub returns-in-Ok-clause-ok : goal.returns-in-Ok-clause-ok
returns-in-Ok-clause-ok c = reader-gained position_stored position_column position_events position_emits c.args.value.now (PositionValue c.gain_reader.new.storage) c.in-PositionValue.positions c.gain_reader.new.storage (has-positions _ _ c.in-PositionValue.is) (has-positions _ _ refl) c.in-Ok.reader c.in-Ok.ensures.ok
