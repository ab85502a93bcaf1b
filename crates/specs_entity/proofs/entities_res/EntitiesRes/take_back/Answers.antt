use Rattle.std.proofs.Common.{length, ap, sym, subst}
use Rattle.specs_entity.specs.Life.{LifeAt}
use Rattle.specs_entity.specs.Births.{Births, all_created}
use Rattle.specs_entity.specs.Layout.{AreMade}
use Rattle.specs_entity.proofs.CreateLemmas.{last-made}
use Rattle.specs_entity.proofs.entities_res.EntitiesRes.take_back.Goals as goal

pub uncreate-requires : goal.uncreate-requires
uncreate-requires c =
    let some = c.loop-entity.invariant.some in
    let rest = c.pop.new.self.items in
    let last = last-made some.0 c.loop-entity.made.items rest c.in-Some.entity c.entity.inside.id c.loop-entity.self c.in-Some.ensures.items (ap (λ (e : LifeAt). e.id) c.entity.view_is) some.1 in
    (all_created (length rest) some.0, last.1)

pub loop-entity-preserved : goal.loop-entity-preserved
loop-entity-preserved c =
    let rest = c.pop.new.self.items in
    let undone : (before : Births) → AreMade before c.loop-entity.made.items c.loop-entity.self → AreMade before rest c.uncreate.new.self = λ before made.
    let last = last-made before c.loop-entity.made.items rest c.in-Some.entity c.entity.inside.id c.loop-entity.self c.in-Some.ensures.items (ap (λ (e : LifeAt). e.id) c.entity.view_is) made in
    subst (AreMade before rest) (sym (c.uncreate.ensures (all_created (length rest) before) last.1)) last.0 in
    let some = c.loop-entity.invariant.some in
    record { some = (some.0, undone some.0 some.1); all = λ before made. undone before (c.loop-entity.invariant.all before made) }
