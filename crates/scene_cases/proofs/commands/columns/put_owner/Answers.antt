use Rattle.std.proofs.Common.{refl, sym, subst}
use Rattle.scene_world.specs.Putting.{PutsIn}
use Rattle.scene_cases.specs.Owning.{owned_by, owner_column, owner_stored, owner_events, owner_emits}
use Rattle.scene_cases.specs.declared.commands.values.Value.TheVariants.{OwnerValue}
use Rattle.scene_cases.proofs.OwnerColumnLemmas.{put-owner, one-alone, has-owners}
use Rattle.scene_cases.proofs.commands.columns.put_owner.Goals as goal
use Rattle.scene_world.proofs.CallerLemmas.{shown-put, shown-kept}

pub returns-in-Ok-clause-ok : goal.returns-in-Ok-clause-ok
returns-in-Ok-clause-ok c =
    subst (λ v. PutsIn owner_column c.args.index (owned_by c.args.id) c.args.named.now v (OwnerValue c.insert.new.self)) (sym c.in-OwnerValue.is)
    (subst (λ named. PutsIn owner_column c.args.index (owned_by c.args.id) named (OwnerValue c.in-OwnerValue.owners) (OwnerValue c.insert.new.self))
    (one-alone c.args.named.now c.in-Some.entity.now c.requires.as_many c.in-Some.ensures.value)
    (put-owner c.in-OwnerValue.owners c.insert.new.self c.args.index c.args.id c.in-Some.entity.now c.in-Ok.ensures.ok))

pub returns-in-Ok-clause-shown : goal.returns-in-Ok-clause-shown
returns-in-Ok-clause-shown c = shown-put owner_stored owner_column owner_events owner_emits c.args.value.now (OwnerValue c.insert.new.self) c.in-OwnerValue.owners c.insert.new.self (has-owners _ _ c.in-OwnerValue.is) (has-owners _ _ refl) c.args.index _ c.in-Ok.ensures.ok c.in-Ok.ensures.events c.in-Ok.ensures.emission

pub returns-in-Err-clause-shown : goal.returns-in-Err-clause-shown
returns-in-Err-clause-shown c = shown-kept owner_stored owner_column owner_events owner_emits c.args.value.now (OwnerValue c.insert.new.self) c.in-OwnerValue.owners c.insert.new.self (has-owners _ _ c.in-OwnerValue.is) (has-owners _ _ refl) c.in-Err.ensures.err c.in-Err.ensures.silent c.in-Err.ensures.emission
