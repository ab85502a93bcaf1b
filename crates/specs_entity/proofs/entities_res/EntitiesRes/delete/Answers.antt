use Rattle.std.proofs.Common.{◌≡◌, ◌≢◌, ◌<◌, None, Some, ap, sym, ◌∙◌, subst, arith, refl, length}
use Rattle.specs_entity.specs.Life.{LifeAt}
use Rattle.specs_entity.specs.Births.{Births, MarksLiving, deleted, living}
use Rattle.specs_entity.specs.Layout.{AreBirths, births_of}
use Rattle.specs_entity.proofs.BirthLemmas.{AreBirths-deleted, births-same, some-none, used-living, on-ok}
use Rattle.specs_entity.proofs.entities_res.EntitiesRes.delete.Goals as goal

pub invariant_of-self : goal.invariant_of-self
invariant_of-self c =
    let births : Births = births_of c.self.inside in
    let kept : AreBirths births = c.self.invariant.births in
    let id = c.entity.inside.id in
    let named = ap (λ (e : LifeAt). e.id) c.entity.view_is in
    let alive : living births id ≡ Some c.args.entity.generation = ap (λ (b : Births). living b id) c.self.view_is ∙ (ap (living c.args.self.now) named ∙ c.is_alive.ensures.value.0 c.if-not-is_alive.false) in
    let lives : living births id ≢ None = λ dead. some-none c.args.entity.generation (sym alive ∙ dead) in
    let room = c.self.invariant.killed in
    let used = c.self.invariant.used in
    let within : id < length births.persistent = used-living births kept id lives in
    let members = on-ok c.add.result c.add.ensures.ok (c.add.ensures.succeeds (omega arith)) in
    let same = births-same (record births { deletions = c.add.new.self.members }) (deleted births id) refl refl members refl refl refl in
    record {
      births = subst AreBirths (sym same) (AreBirths-deleted births id kept lives);
      used = c.self.invariant.used;
      generations = c.self.invariant.generations;
      raised = c.self.invariant.raised;
      killed = let r = c.add.ensures.room in omega arith;
      marked = c.self.invariant.marked;
      cache = c.self.invariant.cache;
      unmarked = c.self.invariant.unmarked;
      alive_room = c.self.invariant.alive_room;
      alive = subst (MarksLiving c.self.inside.alive.members) (sym same) c.self.invariant.alive;
    }
