use Rattle.std.proofs.Common.{refl, [], ℤ, Some, sym, subst}
use Rattle.std.proofs.Math.Facts.{to_z-of_z}
use Rattle.specs_layouts.specs.Parts.{Puts}
use Rattle.scene_world.specs.Putting.{PutsIn}
use Rattle.scene_basics.specs.Numbers.{counting}
use Rattle.scene_basics.specs.Values.{whole_at}
use Rattle.scene_basics.specs.Columns.{number_column, whole_stored, number_events, number_emits}
use Rattle.scene_basics.specs.declared.values.Value.TheVariants.{NumbersValue}
use Rattle.scene_basics.proofs.ColumnLemmas.{put-number, has-numbers}
use Rattle.scene_basics.proofs.columns.put_number.Goals as goal
use Rattle.scene_world.proofs.CallerLemmas.{shown-put, shown-kept}

pub returns-in-Ok-clause-ok : goal.returns-in-Ok-clause-ok
returns-in-Ok-clause-ok c =
    subst (λ v. PutsIn number_column c.args.index (counting c.args.number) [] v (NumbersValue c.insert.new.self)) (sym c.in-NumbersValue.is)
    (put-number c.in-NumbersValue.numbers c.insert.new.self c.args.index c.args.number
    (subst (λ (n : ℤ). Puts (whole_at c.in-NumbersValue.numbers) c.args.index (Some (record { 0 = n })) (whole_at c.insert.new.self)) (to_z-of_z c.ranges.number) c.in-Ok.ensures.ok))

pub returns-in-Ok-clause-shown : goal.returns-in-Ok-clause-shown
returns-in-Ok-clause-shown c = shown-put whole_stored number_column number_events number_emits c.args.value.now (NumbersValue c.insert.new.self) c.in-NumbersValue.numbers c.insert.new.self (has-numbers _ _ c.in-NumbersValue.is) (has-numbers _ _ refl) c.args.index _ c.in-Ok.ensures.ok c.in-Ok.ensures.events c.in-Ok.ensures.emission

pub returns-in-Err-clause-shown : goal.returns-in-Err-clause-shown
returns-in-Err-clause-shown c = shown-kept whole_stored number_column number_events number_emits c.args.value.now (NumbersValue c.insert.new.self) c.in-NumbersValue.numbers c.insert.new.self (has-numbers _ _ c.in-NumbersValue.is) (has-numbers _ _ refl) c.in-Err.ensures.err c.in-Err.ensures.silent c.in-Err.ensures.emission
