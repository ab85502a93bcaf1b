use Rattle.std.proofs.Common.{◌≡◌, true, Some, ap, sym, ◌∙◌, subst, arith, set, refl}
use Rattle.std.proofs.Math.ListN.{length-set}
use Rattle.std.specs.FinSet as fin
use Rattle.specs_entity.specs.Life.{Life}
use Rattle.specs_entity.specs.Births.{Births, Continues, MarksLiving, living, settled, persistent_at, next_life}
use Rattle.specs_entity.specs.Layout.{AreBirths, births_of}
use Rattle.specs_entity.proofs.BirthLemmas.{AreBirths-settled, births-same, living-settled}
use Rattle.specs_entity.proofs.AliveLemmas.{marks-settled}
use Rattle.specs_entity.proofs.LawLemmas.{settle-continues}
use Rattle.specs_entity.proofs.entities_res.EntitiesRes.settle.Goals as goal

pub returns-clause-value : goal.returns-clause-value
returns-clause-value c =
    let births : Births = births_of c.self.inside in
    let last = c.generation-last.ensures ∙ ap (λ (b : Births). persistent_at b c.args.id) (sym c.self.view_is) in
    births-same _ (settled births c.args.id)
    (ap (λ (l : Life). set c.self.inside.generations.items c.args.id (Some l)) (c.following.ensures ∙ ap next_life last))
    c.remove.ensures.members
    refl refl refl refl
    ∙ ap (λ (b : Births). settled b c.args.id) c.self.view_is

pub returns-clause-continues : goal.returns-clause-continues
returns-clause-continues c =
    subst (Continues c.args.self.now) (sym (returns-clause-value c))
    (settle-continues c.args.self.now c.args.id (subst AreBirths c.self.view_is c.self.invariant.births) c.requires)

pub returns-clause-lives : goal.returns-clause-lives
returns-clause-lives c = λ index.
    ap (λ (b : Births). living b index) (returns-clause-value c)
    ∙ living-settled c.args.self.now c.args.id (subst AreBirths c.self.view_is c.self.invariant.births) c.requires index

pub invariant_of-self : goal.invariant_of-self
invariant_of-self c =
    let births : Births = births_of c.self.inside in
    let kept : AreBirths births = c.self.invariant.births in
    let is_fresh : fin.contains births.fresh c.args.id ≡ true = ap (λ (b : Births). fin.contains b.fresh c.args.id) c.self.view_is ∙ c.requires in
    let long = length-set c.self.inside.generations.items c.args.id (Some c.following.result) in
    record {
      births = subst AreBirths (ap (λ (b : Births). settled b c.args.id) c.self.view_is ∙ sym (returns-clause-value c)) (AreBirths-settled births c.args.id kept is_fresh);
      used = let h = c.self.invariant.used in omega arith;
      generations = c.self.invariant.generations;
      raised = let h = c.self.invariant.raised in let r = c.remove.ensures.room in omega arith;
      killed = c.self.invariant.killed;
      marked = c.self.invariant.marked;
      cache = c.self.invariant.cache;
      unmarked = c.self.invariant.unmarked;
      alive_room = c.self.invariant.alive_room;
      alive = subst (MarksLiving c.self.inside.alive.members) (ap (λ (b : Births). settled b c.args.id) c.self.view_is ∙ sym (returns-clause-value c)) (marks-settled c.self.inside.alive.members births c.args.id c.self.invariant.alive kept is_fresh);
    }
