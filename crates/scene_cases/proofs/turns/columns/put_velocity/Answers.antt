use Rattle.std.proofs.Common.{[], refl, sym, subst}
use Rattle.scene_world.specs.Putting.{PutsIn}
use Rattle.scene_cases.specs.Drifting.{counting, velocity_column, velocity_events, velocity_emits}
use Rattle.scene_cases.specs.declared.turns.values.Value.TheVariants.{VelocityValue}
use Rattle.scene_cases.proofs.DriftColumnLemmas.{put-velocity, velocity_stored, has-velocities}
use Rattle.scene_cases.proofs.turns.columns.put_velocity.Goals as goal
use Rattle.scene_world.proofs.CallerLemmas.{shown-put, shown-kept}

pub returns-in-Ok-clause-ok : goal.returns-in-Ok-clause-ok
returns-in-Ok-clause-ok c =
    subst (λ v. PutsIn velocity_column c.args.index (counting c.args.number) [] v (VelocityValue c.insert.new.self)) (sym c.in-VelocityValue.is)
    (put-velocity c.in-VelocityValue.velocities c.insert.new.self c.args.index c.args.number _ refl c.in-Ok.ensures.ok)

pub returns-in-Ok-clause-shown : goal.returns-in-Ok-clause-shown
returns-in-Ok-clause-shown c = shown-put velocity_stored velocity_column velocity_events velocity_emits c.args.value.now (VelocityValue c.insert.new.self) c.in-VelocityValue.velocities c.insert.new.self (has-velocities _ _ c.in-VelocityValue.is) (has-velocities _ _ refl) c.args.index _ c.in-Ok.ensures.ok c.in-Ok.ensures.events c.in-Ok.ensures.emission

pub returns-in-Err-clause-shown : goal.returns-in-Err-clause-shown
returns-in-Err-clause-shown c = shown-kept velocity_stored velocity_column velocity_events velocity_emits c.args.value.now (VelocityValue c.insert.new.self) c.in-VelocityValue.velocities c.insert.new.self (has-velocities _ _ c.in-VelocityValue.is) (has-velocities _ _ refl) c.in-Err.ensures.err c.in-Err.ensures.silent c.in-Err.ensures.emission
