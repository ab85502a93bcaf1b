use Rattle.std.proofs.Common.{◌≡◌, ◌<◌, List, get_or, take, false, true, eqb, Some, ap, sym, ◌∙◌, subst, arith, inr}
use Rattle.std.specs.FinSet as fin
use Rattle.std.specs.Ordering.{nat_cmp}
use Rattle.std.specs.List.{list_any}
use Rattle.std.proofs.lemmas.List.{get_or_read}
use Rattle.specs_entity.specs.Life.{LifeAt}
use Rattle.specs_entity.specs.Births.{indices_of, living_in}
use Rattle.specs_entity.proofs.BirthLemmas.{on-ok, some-none}
use Rattle.specs_entity.proofs.ListLemmas.{CanKill-nil, CanKill-more, marks-more, indices-more, any-take}
use Rattle.specs_entity.proofs.deaths.mark_all.Goals as goal

pub loop-place-init : goal.loop-place-init
loop-place-init c = record {
  killable = CanKill-nil (living_in c.args.generations.now c.args.raised.now.members);
  marks = λ q. ap (λ s. fin.contains s q) c.requires.unmarked ∙ fin.contains-empty nat_cmp q;
  room = omega arith;
}

pub returns-then-not-is_living-clause-marks : goal.returns-then-not-is_living-clause-marks
returns-then-not-is_living-clause-marks c = λ q is. any-take q c.loop-place.place c.args.entities.now (sym (c.loop-place.invariant.marks q) ∙ is)

pub returns-then-contains-clause-marks : goal.returns-then-contains-clause-marks
returns-then-contains-clause-marks c = λ q is. any-take q c.loop-place.place c.args.entities.now (sym (c.loop-place.invariant.marks q) ∙ is)

pub returns-then-contains-clause-value : goal.returns-then-contains-clause-value
returns-then-contains-clause-value c =
    let place = c.loop-place.place in
    let all : List LifeAt = c.args.entities.now in
    let item : LifeAt = c.index-entities-place.result in
    let named = ap (λ (e : LifeAt). e.id) c.entity.view_is in
    let again = sym (c.loop-place.invariant.marks c.entity.inside.id) ∙ (sym c.contains.ensures ∙ c.if-contains.true) in
    record {
      before = c.loop-place.invariant.killable;
      inside = c.loop-place-test.true;
      fault = λ d. inr (subst (λ q. list_any (λ other. eqb q other) (indices_of (take place all)) ≡ true) (named ∙ ap (λ (e : LifeAt). e.id) (get_or_read all place item c.loop-place-test.true c.index-entities-place.is d)) again);
    }

pub loop-place-preserved : goal.loop-place-preserved
loop-place-preserved c =
    let place = c.loop-place.place in
    let all : List LifeAt = c.args.entities.now in
    let item : LifeAt = c.index-entities-place.result in
    let lives = living_in c.args.generations.now c.args.raised.now.members in
    let marked = c.loop-place.marked.members in
    let named = ap (λ (e : LifeAt). e.id) c.entity.view_is in
    let alive : lives item.id ≡ Some item.generation = subst (λ (e : LifeAt). lives e.id ≡ Some e.generation) c.entity.view_is (c.is_living.ensures.0 c.if-not-is_living.false) in
    let here : item ≡ get_or all place item = c.index-entities-place.is in
    let room : item.id < c.args.marked.now.room = c.requires.room item.id (λ dead. some-none item.generation (sym alive ∙ dead)) in
    let kept = c.loop-place.invariant.room in
    let members = on-ok c.add.result c.add.ensures.ok (c.add.ensures.succeeds (omega arith)) ∙ ap (λ (e : LifeAt). fin.insert marked e.id) (c.entity.view_is ∙ here) in
    let single = sym (c.loop-place.invariant.marks c.entity.inside.id) ∙ (sym c.contains.ensures ∙ c.if-contains.false) in
    record {
      killable = CanKill-more lives all place item c.loop-place-test.true c.loop-place.invariant.killable
          (subst (λ (e : LifeAt). lives e.id ≡ Some e.generation) here alive)
          (subst (λ q. list_any (λ other. eqb q other) (indices_of (take place all)) ≡ false) (named ∙ ap (λ (e : LifeAt). e.id) here) single);
      marks = λ q. ap (λ s. fin.contains s q) members
          ∙ (marks-more marked (indices_of (take place all)) (get_or all place item).id c.loop-place.invariant.marks q
          ∙ ap (list_any (λ other. eqb q other)) (sym (indices-more all place item c.loop-place-test.true)));
      room = let r = c.add.ensures.room in omega arith;
    }
