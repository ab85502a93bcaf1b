use Rattle.std.proofs.Common.{◌≡◌, eqb, ◌<◌, ◌-◌, ◌++◌, ◌∷◌, [], List, None, cond, length, take, ap, sym, ◌∙◌, subst, arith, refl}
use Rattle.std.proofs.lemmas.Bool.{cond-true, eq-eqb}
use Rattle.specs_entity.specs.Births.{Births, MarksLiving, with_next_taken, next_index, IndicesAreSpent}
use Rattle.specs_entity.specs.Layout.{AreBirths, births_of}
use Rattle.specs_entity.proofs.BirthLemmas.{IsTaken, next-taken, births-same}
use Rattle.specs_entity.proofs.AliveLemmas.{marks-taken}
use Rattle.specs_entity.proofs.entities_res.EntitiesRes.grow.Goals as goal

module _ (c : goal.After-push) where
  abbrev births : Births
  births = births_of c.self.inside

  empty : births.cache ≡ []
  empty = ap (λ (b : Births). b.cache) c.self.view_is ∙ c.requires.empty

  more : length births.persistent < births.indices
  more = subst (λ (b : Births). length b.persistent < b.indices) (sym c.self.view_is) c.requires.left

  left : IndicesAreSpent births → ⊥
  left spent =
      let few = spent.1 in
      let many = more in
      omega arith

  taken : IsTaken births (with_next_taken births) (next_index births)
  taken = next-taken births c.self.invariant.births left

  items : c.push.new.self.items ≡ births.persistent ++ None ∷ []
  items =
      let room = c.in_ok-reserve-6.ensures.ok in
      let many = more in
      let used = c.len-used.ensures in
      let ok = c.self.inside.generations.ok in
      let same = c.in_ok-reserve-6.ensures.len in
      let pushed = c.push.ensures.succeeds (omega arith) in
      c.push.ensures.items
      ∙ (ap (λ b. cond b (c.reserve-6.new.self.items ++ None ∷ []) c.reserve-6.new.self.items) pushed
      ∙ ap (λ xs. xs ++ None ∷ []) c.in_ok-reserve-6.ensures.items)

  opened : record births { persistent = c.push.new.self.items; fresh = c.reserve.new.self.members; deletions = c.reserve-2.new.self.members; cache = c.reserve-5.new.self.items } ≡ with_next_taken births
  opened =
      births-same (record births { persistent = c.push.new.self.items; fresh = c.reserve.new.self.members; deletions = c.reserve-2.new.self.members; cache = c.reserve-5.new.self.items }) (with_next_taken births)
      (items ∙ sym (cond-true (eqb (length births.cache) 0) _ _ (eq-eqb (length births.cache) 0 (ap length empty))))
      c.in_ok-reserve.ensures.ok c.in_ok-reserve-2.ensures.ok
      (c.in_ok-reserve-5.ensures.items ∙ (empty ∙ sym (ap (λ (xs : List _). take (length xs - 1) xs) empty)))
      refl refl

pub returns-clause-ok : goal.returns-clause-ok
returns-clause-ok c = opened c ∙ ap with_next_taken c.self.view_is

pub invariant_of-self-2 : goal.invariant_of-self-2
invariant_of-self-2 c =
    let many = more c in
    let used = c.len-used.ensures in
    let ok = c.self.inside.generations.ok in
    let long = c.push.ensures.len in
    let pushed = c.push.new.self.ok in
    let held = c.reserve-5.new.self.ok in
    record {
      births = subst AreBirths (sym (opened c)) (taken c).kept;
      used = omega arith;
      generations = let r = c.in_ok-reserve-6.ensures.ok in let s = c.in_ok-reserve-6.ensures.len in let t = c.push.ensures.capacity in omega arith;
      raised = c.in_ok-reserve.ensures.room;
      killed = c.in_ok-reserve-2.ensures.room;
      marked = c.in_ok-reserve-3.ensures.room;
      cache = let r = c.in_ok-reserve-5.ensures.ok in omega arith;
      unmarked = c.in_ok-reserve-3.ensures.ok ∙ c.self.invariant.unmarked;
      alive_room = c.in_ok-reserve-4.ensures.room;
      alive = subst (MarksLiving c.reserve-4.new.self.members) (sym (opened c)) (subst (λ s. MarksLiving s (with_next_taken (births c))) (sym c.in_ok-reserve-4.ensures.ok) (marks-taken c.self.inside.alive.members (births c) c.self.invariant.births (left c) c.self.invariant.alive));
    }
