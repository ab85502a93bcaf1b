use Rattle.std.proofs.Common.{◌≡◌, true, List, get_or, ap, sym, ◌∙◌, subst}
use Rattle.std.specs.FinSet as fin
use Rattle.specs_entity.specs.Life.{LifeAt}
use Rattle.specs_entity.specs.Births.{Births, settled}
use Rattle.specs_entity.proofs.LawLemmas.{continues-through}
use Rattle.specs_entity.proofs.ListLemmas.{fresh-next, settled-next}
use Rattle.specs_entity.proofs.entities_res.EntitiesRes.settle_each.Goals as goal

pub settle-requires : goal.settle-requires
settle-requires c =
    let place = c.loop-entity.entity-index in
    let all : List LifeAt = c.args.entities.now in
    let item : LifeAt = c.entity-item.result in
    let fresh = fresh-next c.args.self.now all place item c.loop-entity-test.true c.requires in
    subst (λ (e : LifeAt). fin.contains c.loop-entity.self.fresh e.id ≡ true) (sym (c.entity.view_is ∙ c.entity-item.is))
    (subst (λ (b : Births). fin.contains b.fresh (get_or all place item).id ≡ true) (sym c.loop-entity.invariant.run) fresh)

pub loop-entity-preserved : goal.loop-entity-preserved
loop-entity-preserved c =
    let place = c.loop-entity.entity-index in
    let all : List LifeAt = c.args.entities.now in
    let item : LifeAt = c.entity-item.result in
    let named = ap (λ (e : LifeAt). e.id) (c.entity.view_is ∙ c.entity-item.is) in
    record {
      run = c.settle.ensures.value ∙ (ap (settled c.loop-entity.self) named ∙ (ap (λ (b : Births). settled b (get_or all place item).id) c.loop-entity.invariant.run ∙ sym (settled-next c.args.self.now all place item c.loop-entity-test.true)));
      lives = λ index. c.settle.ensures.lives index ∙ c.loop-entity.invariant.lives index;
      goes = continues-through _ _ _ c.loop-entity.invariant.goes c.settle.ensures.continues;
    }
