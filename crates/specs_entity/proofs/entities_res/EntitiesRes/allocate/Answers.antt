use Rattle.std.proofs.Common.{◌≡◌, ◌<◌, Some, ap, sym, ◌∙◌, subst, arith}
use Rattle.std.proofs.Math.ListN.{length-set}
use Rattle.std.specs.FinSet as fin
use Rattle.specs_entity.specs.Life.{LifeAt}
use Rattle.specs_entity.specs.Births.{Births, MarksLiving, next_index, next_life, number_of, persistent_at, with_life}
use Rattle.specs_entity.specs.Layout.{AreBirths, IsFree, births_of}
use Rattle.specs_entity.proofs.BirthLemmas.{AreBirths-alive, on-ok}
use Rattle.specs_entity.proofs.AliveLemmas.{marks-allocated}
use Rattle.specs_entity.proofs.entities_res.EntitiesRes.allocate.Goals as goal

pub add-requires : goal.add-requires
add-requires c =
    let named : c.entity.inside.id ≡ next_index c.args.self.now = ap (λ (e : LifeAt). e.id) (c.entity.view_is ∙ c.in_ok-entity.ensures.ok) in
    let free : IsFree (births_of c.self.inside) (next_index c.args.self.now) = subst (λ (b : Births). IsFree b (next_index c.args.self.now)) (sym c.self.view_is) c.in_ok-take_next.ensures.free in
    let used = free.used in
    let within = c.self.invariant.births.used in
    let most = c.self.invariant.births.indices in
    omega arith

pub index_mut-requires : goal.index_mut-requires
index_mut-requires c =
    let named : c.entity.inside.id ≡ next_index c.args.self.now = ap (λ (e : LifeAt). e.id) (c.entity.view_is ∙ c.in_ok-entity.ensures.ok) in
    let free : IsFree (births_of c.self.inside) (next_index c.args.self.now) = subst (λ (b : Births). IsFree b (next_index c.args.self.now)) (sym c.self.view_is) c.in_ok-take_next.ensures.free in
    let used = free.used in
    let ok = c.self.inside.generations.ok in
    omega arith

pub invariant_of-self : goal.invariant_of-self
invariant_of-self c =
    let before = c.args.self.now in
    let births : Births = births_of c.self.inside in
    let id = c.entity.inside.id in
    let life = c.entity.inside.generation in
    let named : c.entity.inside.id ≡ next_index before = ap (λ (e : LifeAt). e.id) (c.entity.view_is ∙ c.in_ok-entity.ensures.ok) in
    let given : life ≡ next_life (persistent_at before (next_index before)) = ap (λ (e : LifeAt). e.generation) (c.entity.view_is ∙ c.in_ok-entity.ensures.ok) in
    let free : IsFree births (next_index before) = subst (λ (b : Births). IsFree b (next_index before)) (sym c.self.view_is) c.in_ok-take_next.ensures.free in
    let same : persistent_at births (next_index before) ≡ persistent_at before (next_index before) = ap (λ (b : Births). persistent_at b (next_index before)) c.self.view_is ∙ c.in_ok-take_next.ensures.same in
    let limit : births.generations ≡ before.generations = ap (λ (b : Births). b.generations) (c.self.view_is ∙ c.in_ok-take_next.ensures.ok) in
    let few : number_of (persistent_at births (next_index before)) < births.generations = let r = c.in_ok-entity.ensures.room in let n = ap number_of same in omega arith in
    let alive : AreBirths (with_life births (next_index before) (next_life (persistent_at births (next_index before)))) = AreBirths-alive births (next_index before) c.self.invariant.births free few in
    let long = length-set c.self.inside.generations.items id (Some life) in
    let within = c.self.invariant.used in
    let alive_room = c.self.invariant.alive_room in
    let used = free.used in
    let members : c.add.new.self.members ≡ fin.insert c.self.inside.alive.members (next_index before) = on-ok c.add.result c.add.ensures.ok (c.add.ensures.succeeds (omega arith)) ∙ ap (fin.insert c.self.inside.alive.members) named in
    record {
      births = subst (λ (e : LifeAt). AreBirths (with_life births e.id e.generation)) {x = record { id = next_index before; generation = next_life (persistent_at births (next_index before)) }} (λ j. record { id = sym named j; generation = (ap next_life same ∙ sym given) j }) alive;
      used = omega arith;
      generations = c.self.invariant.generations;
      raised = c.self.invariant.raised;
      killed = c.self.invariant.killed;
      marked = c.self.invariant.marked;
      cache = c.self.invariant.cache;
      unmarked = c.self.invariant.unmarked;
      alive_room = let r = c.add.ensures.room in omega arith;
      alive = (subst (λ (e : LifeAt). MarksLiving c.add.new.self.members (with_life births e.id e.generation)) {x = record { id = next_index before; generation = next_life (persistent_at births (next_index before)) }} (λ j. record { id = sym named j; generation = (ap next_life same ∙ sym given) j }) (subst (λ s. MarksLiving s (with_life births (next_index before) (next_life (persistent_at births (next_index before))))) (sym members) (marks-allocated c.self.inside.alive.members births (next_index before) c.self.invariant.alive free)));
    }
