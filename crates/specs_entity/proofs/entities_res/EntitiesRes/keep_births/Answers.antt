use Rattle.std.proofs.Common.{◌≡◌, ◌∷◌, [], length, ap, sym, subst, ◌∙◌, arith, length-append}
use Rattle.specs_entity.specs.Life.{LifeAt}
use Rattle.specs_entity.specs.Births.{Births, all_created}
use Rattle.specs_entity.specs.Layout.{AreMade}
use Rattle.specs_entity.proofs.CreateLemmas.{last-made}
use Rattle.specs_entity.proofs.entities_res.EntitiesRes.keep_births.Goals as goal

pub uncreate-requires : goal.uncreate-requires
uncreate-requires c =
    let some = c.loop-made.invariant.some in
    let rest = c.pop.new.self.items in
    let last = last-made some.0 c.loop-made.made.items rest c.in-Some.entity c.entity.inside.id c.loop-made.self c.in-Some.ensures.items (ap (λ (e : LifeAt). e.id) c.entity.view_is) some.1 in
    (all_created (length rest) some.0, last.1)

pub loop-made-preserved-in-Some : goal.loop-made-preserved-in-Some
loop-made-preserved-in-Some c =
    let rest = c.pop.new.self.items in
    let undone : (before : Births) → AreMade before c.loop-made.made.items c.loop-made.self → AreMade before rest c.uncreate.new.self = λ before made.
    let last = last-made before c.loop-made.made.items rest c.in-Some.entity c.entity.inside.id c.loop-made.self c.in-Some.ensures.items (ap (λ (e : LifeAt). e.id) c.entity.view_is) made in
    subst (AreMade before rest) (sym (c.uncreate.ensures (all_created (length rest) before) last.1)) last.0 in
    let some = c.loop-made.invariant.some in
    let split = ap length c.in-Some.ensures.items in
    let one = length-append rest (c.in-Some.entity ∷ []) in
    let test = c.loop-made-test.true in
    record { few = omega arith; some = (some.0, undone some.0 some.1); all = λ before made. undone before (c.loop-made.invariant.all before made) }

pub returns : goal.returns
returns c =
    let test = c.loop-made-test.false in
    let few = c.loop-made.invariant.few in
    let long : length c.loop-made.made.items ≡ c.args.count = omega arith in
    λ before made. (c.loop-made.invariant.all before made).run ∙ ap (λ n. all_created n before) long
