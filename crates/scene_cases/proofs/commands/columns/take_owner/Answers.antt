use Rattle.std.proofs.Common.{refl}
use Rattle.scene_world.proofs.CallerLemmas.{shown-taken, shown-kept}
use Rattle.scene_cases.specs.Owning.{owner_stored, owner_column, owner_events, owner_emits}
use Rattle.scene_cases.specs.declared.commands.values.Value.TheVariants.{OwnerValue}
use Rattle.scene_cases.proofs.OwnerColumnLemmas.{has-owners}
use Rattle.scene_cases.proofs.commands.columns.take_owner.Goals as goal

pub returns-in-Ok-clause-shown : goal.returns-in-Ok-clause-shown
returns-in-Ok-clause-shown c = shown-taken owner_stored owner_column owner_events owner_emits c.args.value.now (OwnerValue c.drop.new.self) c.in-OwnerValue.owners c.drop.new.self (has-owners _ _ c.in-OwnerValue.is) (has-owners _ _ refl) c.args.index c.in-Ok.ensures.ok c.in-Ok.ensures.events c.in-Ok.ensures.emission

pub returns-in-Err-clause-shown : goal.returns-in-Err-clause-shown
returns-in-Err-clause-shown c = shown-kept owner_stored owner_column owner_events owner_emits c.args.value.now (OwnerValue c.drop.new.self) c.in-OwnerValue.owners c.drop.new.self (has-owners _ _ c.in-OwnerValue.is) (has-owners _ _ refl) c.in-Err.ensures.err c.in-Err.ensures.silent c.in-Err.ensures.emission
