use Rattle.std.proofs.Common.{[], refl, sym, subst}
use Rattle.scene_world.specs.Putting.{PutsIn}
use Rattle.scene_cases.specs.Drifting.{counting, position_column, position_events, position_emits}
use Rattle.scene_cases.specs.declared.turns.values.Value.TheVariants.{PositionValue}
use Rattle.scene_cases.proofs.DriftColumnLemmas.{put-position, position_stored, has-positions}
use Rattle.scene_cases.proofs.turns.columns.put_position.Goals as goal
use Rattle.scene_world.proofs.CallerLemmas.{shown-put, shown-kept}

pub returns-in-Ok-clause-ok : goal.returns-in-Ok-clause-ok
returns-in-Ok-clause-ok c =
    subst (λ v. PutsIn position_column c.args.index (counting c.args.number) [] v (PositionValue c.insert.new.self)) (sym c.in-PositionValue.is)
    (put-position c.in-PositionValue.positions c.insert.new.self c.args.index c.args.number _ refl c.in-Ok.ensures.ok)

pub returns-in-Ok-clause-shown : goal.returns-in-Ok-clause-shown
returns-in-Ok-clause-shown c = shown-put position_stored position_column position_events position_emits c.args.value.now (PositionValue c.insert.new.self) c.in-PositionValue.positions c.insert.new.self (has-positions _ _ c.in-PositionValue.is) (has-positions _ _ refl) c.args.index _ c.in-Ok.ensures.ok c.in-Ok.ensures.events c.in-Ok.ensures.emission

pub returns-in-Err-clause-shown : goal.returns-in-Err-clause-shown
returns-in-Err-clause-shown c = shown-kept position_stored position_column position_events position_emits c.args.value.now (PositionValue c.insert.new.self) c.in-PositionValue.positions c.insert.new.self (has-positions _ _ c.in-PositionValue.is) (has-positions _ _ refl) c.in-Err.ensures.err c.in-Err.ensures.silent c.in-Err.ensures.emission
