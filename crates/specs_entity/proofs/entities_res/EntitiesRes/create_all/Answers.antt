use Rattle.std.proofs.Common.{◌≡◌, ◌++◌, ◌∷◌, [], length, cond, ap, sym, ◌∙◌, subst, arith, length-append}
use Rattle.specs_entity.specs.Life.{LifeAt}
use Rattle.specs_entity.specs.Births.{Births, IndicesAreSpent, GenerationsAreSpent}
use Rattle.specs_entity.specs.Layout.{AreBirths, AreMade}
use Rattle.specs_entity.proofs.CreateLemmas.{AreMade-none, AreMade-more, ok-err}
use Rattle.specs_entity.proofs.entities_res.EntitiesRes.create_all.Goals as goal

pub loop-init : goal.loop-init
loop-init c =
    let kept : AreBirths c.args.self.now = subst AreBirths c.self.view_is c.self.invariant.births in
    record {
      made = subst (λ xs. AreMade c.args.self.now xs c.args.self.now) (sym c.requires.empty) (AreMade-none c.args.self.now kept);
      long = ap length c.requires.empty;
      room = c.requires.room;
    }

pub loop-preserved : goal.loop-preserved
loop-preserved c =
    let before : Births = c.args.self.now in
    let entity : LifeAt = c.in_ok-entity.entity in
    let left : IndicesAreSpent c.loop.self → ⊥ = λ spent. ok-err c.create.result entity _ c.in_ok-entity.was (c.create.ensures.indices_spent.1 spent) in
    let room : GenerationsAreSpent c.loop.self → ⊥ = λ spent. ok-err c.create.result entity _ c.in_ok-entity.was (c.create.ensures.generations_spent.1 spent) in
    let counted = c.loop-test.true in
    let space = c.loop.invariant.room in
    let long = c.loop.invariant.long in
    let ok = c.loop.made.ok in
    let pushed = c.push.ensures.succeeds (omega arith) in
    let items : c.push.new.self.items ≡ c.loop.made.items ++ entity ∷ [] = c.push.ensures.items ∙ ap (λ b. cond b (c.loop.made.items ++ entity ∷ []) c.loop.made.items) pushed in
    let more = AreMade-more before c.loop.made.items c.loop.self c.create.new.self entity c.loop.invariant.made left room c.in_ok-entity.ensures.value c.in_ok-entity.ensures.ok in
    let one = length-append c.loop.made.items (entity ∷ []) in
    let n = ap length items in
    record {
      made = subst (λ xs. AreMade before xs c.create.new.self) (sym items) more;
      long = omega arith;
      room = let r = c.push.ensures.capacity in omega arith;
    }
