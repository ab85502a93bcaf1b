use Rattle.std.proofs.Common.{◌≡◌, ◌≢◌, ℕ, ◌++◌, ◌∷◌, [], None, Some, false, ap, sym, ◌∙◌, subst, arith, cond, set, refl}
use Rattle.std.proofs.Math.ListN.{length-set}
use Rattle.specs_entity.specs.Life.{Life, LifeAt}
use Rattle.specs_entity.specs.Births.{Births, Continues, MarksLiving, buried, living}
use Rattle.specs_entity.specs.Layout.{AreBirths, births_of}
use Rattle.specs_entity.proofs.BirthLemmas.{AreBirths-buried, cache-shorter, births-same, living-number, living-lives, some-none, used-living}
use Rattle.specs_entity.proofs.AliveLemmas.{marks-buried}
use Rattle.specs_entity.proofs.LawLemmas.{bury-continues}
use Rattle.specs_entity.proofs.entities_res.EntitiesRes.bury.Goals as goal

pub died-requires : goal.died-requires
died-requires c =
    ap (λ (e : LifeAt). e.generation.lives) c.entity.view_is
    ∙ living-lives c.args.self.now c.args.entity.id c.args.entity.generation c.requires

pub index_mut-requires : goal.index_mut-requires
index_mut-requires c =
    let births : Births = births_of c.self.inside in
    let alive = ap (λ (b : Births). living b c.entity.inside.id) c.self.view_is ∙ ap (living c.args.self.now) (ap (λ (e : LifeAt). e.id) c.entity.view_is) ∙ c.requires in
    let within = used-living births c.self.invariant.births c.entity.inside.id (λ dead. some-none c.args.entity.generation (sym alive ∙ dead)) in
    let ok = c.self.inside.generations.ok in
    omega arith

module _ (c : goal.After-push) where
  abbrev births : Births
  births = births_of c.self.inside

  abbrev id : ℕ
  id = c.entity.inside.id

  alive : living births id ≡ Some c.args.entity.generation
  alive = ap (λ (b : Births). living b id) c.self.view_is ∙ ap (living c.args.self.now) (ap (λ (e : LifeAt). e.id) c.entity.view_is) ∙ c.requires

  lives : living births id ≢ None
  lives dead = some-none c.args.entity.generation (sym alive ∙ dead)

  same : buried births id ≡ buried c.args.self.now c.args.entity.id
  same = ap (λ (b : Births). buried b id) c.self.view_is ∙ ap (λ (e : LifeAt). buried c.args.self.now e.id) c.entity.view_is

pub returns-clause-value : goal.returns-clause-value
returns-clause-value c =
    let few = cache-shorter (births c) (id c) c.self.invariant.births (lives c) in
    let used = c.self.invariant.used in
    let room = c.self.invariant.cache in
    let ok = c.self.inside.cache.ok in
    let pushed = c.push.ensures.succeeds (omega arith) in
    let number = ap (λ (e : LifeAt). e.generation.number) c.entity.view_is ∙ living-number (births c) (id c) c.args.entity.generation (alive c) in
    births-same _ (buried (births c) (id c))
    (ap (λ (l : Life). set c.self.inside.generations.items (id c) (Some l)) (c.died.ensures ∙ ap (λ n. record { number = n; lives = false }) number))
    c.remove.ensures.members
    c.remove-2.ensures.members
    (c.push.ensures.items ∙ ap (λ b. cond b (c.self.inside.cache.items ++ id c ∷ []) c.self.inside.cache.items) pushed)
    refl refl
    ∙ same c

pub returns-clause-continues : goal.returns-clause-continues
returns-clause-continues c =
    subst (Continues c.args.self.now) (sym (returns-clause-value c))
    (bury-continues c.args.self.now c.args.entity.id (subst AreBirths c.self.view_is c.self.invariant.births) (λ dead. some-none c.args.entity.generation (sym c.requires ∙ dead)))

pub invariant_of-self : goal.invariant_of-self
invariant_of-self c =
    let to = same c ∙ sym (returns-clause-value c) in
    let long = length-set c.self.inside.generations.items (id c) (Some c.died.result) in
    record {
      births = subst AreBirths to (AreBirths-buried (births c) (id c) c.self.invariant.births (lives c));
      used = let h = c.self.invariant.used in omega arith;
      generations = c.self.invariant.generations;
      raised = let h = c.self.invariant.raised in let r = c.remove.ensures.room in omega arith;
      killed = let h = c.self.invariant.killed in let r = c.remove-2.ensures.room in omega arith;
      marked = c.self.invariant.marked;
      cache = let h = c.self.invariant.cache in let r = c.push.ensures.capacity in omega arith;
      unmarked = c.self.invariant.unmarked;
      alive_room = let h = c.self.invariant.alive_room in let r = c.remove-3.ensures.room in omega arith;
      alive = subst (MarksLiving c.remove-3.new.self.members) to (subst (λ s. MarksLiving s (buried (births c) (id c))) (sym c.remove-3.ensures.members) (marks-buried c.self.inside.alive.members (births c) (id c) c.self.invariant.alive));
    }
