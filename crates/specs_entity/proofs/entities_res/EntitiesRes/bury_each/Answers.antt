use Rattle.std.proofs.Common.{◌≡◌, List, get_or, take, ap, sym, ◌∙◌, subst}
use Rattle.std.proofs.lemmas.List.{take_all}
use Rattle.specs_entity.specs.Life.{LifeAt}
use Rattle.specs_entity.specs.Births.{Births, IsAlive, LivesBut, all_buried, buried, indices_of, is_named}
use Rattle.specs_entity.proofs.LawLemmas.{continues-through}
use Rattle.specs_entity.proofs.ListLemmas.{all_buried-lives, buried-next, living-next}
use Rattle.specs_entity.proofs.entities_res.EntitiesRes.bury_each.Goals as goal

pub bury-requires : goal.bury-requires
bury-requires c =
    let place = c.loop-entity.entity-index in
    let all : List LifeAt = c.args.entities.now in
    let item : LifeAt = c.entity-item.result in
    let alive = living-next c.args.self.now all place item c.loop-entity-test.true c.requires.killable in
    subst (IsAlive c.loop-entity.self) (sym c.entity-item.is)
    (subst (λ (b : Births). IsAlive b (get_or all place item)) (sym c.loop-entity.invariant.run) alive)

pub loop-entity-preserved : goal.loop-entity-preserved
loop-entity-preserved c =
    let place = c.loop-entity.entity-index in
    let all : List LifeAt = c.args.entities.now in
    let item : LifeAt = c.entity-item.result in
    let named = ap (λ (e : LifeAt). e.id) c.entity-item.is in
    record {
      run = c.bury.ensures.value ∙ (ap (buried c.loop-entity.self) named ∙ (ap (λ (b : Births). buried b (get_or all place item).id) c.loop-entity.invariant.run ∙ sym (buried-next c.args.self.now all place item c.loop-entity-test.true)));
      goes = continues-through _ _ _ c.loop-entity.invariant.goes c.bury.ensures.continues;
    }

pub returns-clause-lives : goal.returns-clause-lives
returns-clause-lives c =
    let all : List LifeAt = c.args.entities.now in
    let whole : take c.loop-entity.entity-index all ≡ all = take_all c.loop-entity.entity-index all c.loop-entity-test.false in
    let value : c.loop-entity.self ≡ all_buried c.args.self.now (indices_of all) = subst (λ entities. c.loop-entity.self ≡ all_buried c.args.self.now (indices_of entities)) whole c.loop-entity.invariant.run in
    subst (LivesBut (is_named all) c.args.self.now) (sym value) (all_buried-lives c.args.self.now (indices_of all))
