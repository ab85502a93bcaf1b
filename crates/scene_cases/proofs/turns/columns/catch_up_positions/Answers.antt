use Rattle.std.proofs.Common.{refl}
use Rattle.scene_world.proofs.CallerLemmas.{reader-caught}
use Rattle.scene_cases.specs.Drifting.{position_column, position_events, position_emits}
use Rattle.scene_cases.specs.declared.turns.values.Value.TheVariants.{PositionValue}
use Rattle.scene_cases.proofs.DriftColumnLemmas.{position_stored, has-positions}
use Rattle.scene_cases.proofs.turns.columns.catch_up_positions.Goals as goal

pub returns : goal.returns
returns c = reader-caught position_stored position_column position_events position_emits c.args.value.now (PositionValue c.catch_up_reader.new.storage) c.in-PositionValue.positions c.catch_up_reader.new.storage (has-positions _ _ c.in-PositionValue.is) (has-positions _ _ refl) c.args.reader.now c.catch_up_reader.ensures
