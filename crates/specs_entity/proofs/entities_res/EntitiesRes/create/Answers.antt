use Rattle.std.proofs.Common.{◌≡◌, ◌<◌, ap, sym, ◌∙◌, subst, arith}
use Rattle.std.specs.FinSet as fin
use Rattle.specs_entity.specs.Life.{LifeAt}
use Rattle.specs_entity.specs.Births.{Births, BringsToLife, LivesOn, Continues, IsAlive, MarksLiving, created, next_index, number_of, persistent_at, with_next_taken}
use Rattle.specs_entity.specs.Layout.{AreBirths, IsFree, births_of}
use Rattle.specs_entity.proofs.BirthLemmas.{AreBirths-fresh, freshened, on-ok}
use Rattle.specs_entity.proofs.AliveLemmas.{marks-fresh}
use Rattle.specs_entity.proofs.entities_res.EntitiesRes.create.Goals as goal

pub add-requires : goal.add-requires
add-requires c =
    let named : c.entity.inside.id ≡ next_index c.args.self.now = ap (λ (e : LifeAt). e.id) (c.entity.view_is ∙ c.in_ok-entity.ensures.ok) in
    let free : IsFree (births_of c.self.inside) (next_index c.args.self.now) = subst (λ (b : Births). IsFree b (next_index c.args.self.now)) (sym c.self.view_is) c.in_ok-take_next.ensures.free in
    let used = free.used in
    let within = c.self.invariant.births.used in
    let most = c.self.invariant.births.indices in
    omega arith

pub add-requires-2 : goal.add-requires-2
add-requires-2 c =
    let named : c.entity.inside.id ≡ next_index c.args.self.now = ap (λ (e : LifeAt). e.id) (c.entity.view_is ∙ c.in_ok-entity.ensures.ok) in
    let free : IsFree (births_of c.self.inside) (next_index c.args.self.now) = subst (λ (b : Births). IsFree b (next_index c.args.self.now)) (sym c.self.view_is) c.in_ok-take_next.ensures.free in
    let used = free.used in
    let within = c.self.invariant.births.used in
    let most = c.self.invariant.births.indices in
    omega arith

module _ (c : goal.After-add-2) where
  abbrev before : Births
  before = c.args.self.now

  abbrev births : Births
  births = births_of c.self.inside

  named : c.entity.inside.id ≡ next_index before
  named = ap (λ (e : LifeAt). e.id) (c.entity.view_is ∙ c.in_ok-entity.ensures.ok)

  free : IsFree births (next_index before)
  free = subst (λ (b : Births). IsFree b (next_index before)) (sym c.self.view_is) c.in_ok-take_next.ensures.free

  members : c.add.new.self.members ≡ fin.insert births.fresh (next_index before)
  members =
      let here = named in
      let used = free.used in
      let within = c.self.invariant.used in
      let room = c.self.invariant.raised in
      on-ok c.add.result c.add.ensures.ok (c.add.ensures.succeeds (omega arith)) ∙ ap (fin.insert births.fresh) named

  living-members : c.add-2.new.self.members ≡ fin.insert c.self.inside.alive.members (next_index before)
  living-members =
      let here = named in
      let used = free.used in
      let within = c.self.invariant.used in
      let room = c.self.invariant.alive_room in
      on-ok c.add-2.result c.add-2.ensures.ok (c.add-2.ensures.succeeds (omega arith)) ∙ ap (fin.insert c.self.inside.alive.members) named

pub returns-clause-ok : goal.returns-clause-ok
returns-clause-ok c =
    let taken : births_of c.self.inside ≡ with_next_taken c.args.self.now = c.self.view_is ∙ c.in_ok-take_next.ensures.ok in
    ap (λ (s : fin.FinSet _). record (births_of c.self.inside) { fresh = s }) (members c)
    ∙ ap (λ (b : Births). freshened b (next_index c.args.self.now)) taken

pub returns-clause-alive : goal.returns-clause-alive
returns-clause-alive c =
    subst (λ (b : Births). IsAlive b c.in_ok-entity.entity) (sym (returns-clause-ok c))
    (subst (IsAlive (created c.args.self.now)) (sym c.in_ok-entity.ensures.ok) c.in_ok-entity.ensures.lives)

pub returns-clause-continues : goal.returns-clause-continues
returns-clause-continues c =
    subst (Continues c.args.self.now) (sym (returns-clause-ok c))
    c.in_ok-entity.ensures.continues

pub returns-clause-lives : goal.returns-clause-lives
returns-clause-lives c =
    subst (λ (b : Births). BringsToLife c.args.self.now c.in_ok-entity.entity b) (sym (returns-clause-ok c))
    (subst (λ (e : LifeAt). BringsToLife c.args.self.now e (created c.args.self.now)) (sym c.in_ok-entity.ensures.ok) c.in_ok-entity.ensures.brings)

pub returns-clause-live_on : goal.returns-clause-live_on
returns-clause-live_on c = subst (LivesOn c.args.self.now) (sym (returns-clause-ok c)) c.in_ok-entity.ensures.live_on

pub invariant_of-self : goal.invariant_of-self
invariant_of-self c =
    let before = c.args.self.now in
    let births : Births = births_of c.self.inside in
    let same : persistent_at births (next_index before) ≡ persistent_at before (next_index before) = ap (λ (b : Births). persistent_at b (next_index before)) c.self.view_is ∙ c.in_ok-take_next.ensures.same in
    let limit : births.generations ≡ before.generations = ap (λ (b : Births). b.generations) (c.self.view_is ∙ c.in_ok-take_next.ensures.ok) in
    let few : number_of (persistent_at births (next_index before)) < births.generations = let r = c.in_ok-entity.ensures.room in let n = ap number_of same in omega arith in
    let room = c.self.invariant.raised in
    record {
      births = subst (λ s. AreBirths (record births { fresh = s })) (sym (members c)) (AreBirths-fresh births (next_index before) c.self.invariant.births (free c) few);
      used = c.self.invariant.used;
      generations = c.self.invariant.generations;
      raised = let r = c.add.ensures.room in omega arith;
      killed = c.self.invariant.killed;
      marked = c.self.invariant.marked;
      cache = c.self.invariant.cache;
      unmarked = c.self.invariant.unmarked;
      alive_room = let r = c.add-2.ensures.room in let h = c.self.invariant.alive_room in omega arith;
      alive = subst (λ s. MarksLiving s (record births { fresh = c.add.new.self.members })) (sym (living-members c)) (subst (λ s. MarksLiving (fin.insert c.self.inside.alive.members (next_index before)) (record births { fresh = s })) (sym (members c)) (marks-fresh c.self.inside.alive.members births (next_index before) c.self.invariant.alive));
    }
