use Rattle.std.proofs.Common.{List, length, sym, subst}
use Rattle.specs_entity.specs.Life.{LifeAt}
use Rattle.specs_entity.specs.Births.{Births, AreFresh, AreNew, Continues, LivesOn, all_created}
use Rattle.specs_entity.proofs.NewLemmas.{newborns-new, newborns-fresh, all_created-continues, all_created-live_on}
use Rattle.specs_entity.proofs.entities_res.EntitiesRes.create_list.Goals as goal

pub returns-clause-new : goal.returns-clause-new
returns-clause-new c =
    let before : Births = c.args.self.now in
    let made = c.create_all.ensures.made in
    subst (AreNew before c.create_all.new.made.items) (sym made.run)
    (subst (λ (list : List LifeAt). AreNew before list (all_created (length c.create_all.new.made.items) before)) (sym made.made)
    (newborns-new (length c.create_all.new.made.items) before made.kept made.can))

pub returns-clause-fresh : goal.returns-clause-fresh
returns-clause-fresh c =
    let before : Births = c.args.self.now in
    let made = c.create_all.ensures.made in
    subst (λ (b : Births). AreFresh b c.create_all.new.made.items) (sym made.run)
    (subst (AreFresh (all_created (length c.create_all.new.made.items) before)) (sym made.made)
    (newborns-fresh (length c.create_all.new.made.items) before made.kept made.can))

pub returns-clause-live_on : goal.returns-clause-live_on
returns-clause-live_on c =
    let made = c.create_all.ensures.made in
    subst (LivesOn c.args.self.now) (sym made.run) (all_created-live_on (length c.create_all.new.made.items) c.args.self.now made.kept made.can)

pub returns-clause-continues : goal.returns-clause-continues
returns-clause-continues c =
    let made = c.create_all.ensures.made in
    subst (Continues c.args.self.now) (sym made.run) (all_created-continues (length c.create_all.new.made.items) c.args.self.now made.kept made.can)
