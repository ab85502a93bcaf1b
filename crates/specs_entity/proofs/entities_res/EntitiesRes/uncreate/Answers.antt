use Rattle.std.proofs.Common.{◌≡◌, ◌≤◌, ◌++◌, ◌∷◌, [], length, cond, get_or, None, ap, sym, ◌∙◌, subst, arith, inl, inr}
use Rattle.std.specs.FinSet as fin
use Rattle.specs_entity.specs.Births.{Births, MarksLiving, persistent_at}
use Rattle.specs_entity.specs.Layout.{AreBirths, IsCreated, births_of}
use Rattle.specs_entity.proofs.CreateLemmas.{some-false, some-true, undo-new, undo-cached, undo-room, used-created, last-there}
use Rattle.specs_entity.proofs.AliveLemmas.{marks-undone}
use Rattle.specs_entity.proofs.entities_res.EntitiesRes.uncreate.Goals as goal

-- an index of the cache goes back into it
module _ (c : goal.After-push) where
  abbrev births : Births
  births = births_of c.self.inside

  held : (before : Births) → IsCreated before c.args.id c.args.self.now → IsCreated before c.args.id births
  held before is = subst (IsCreated before c.args.id) (sym c.self.view_is) is

  born : persistent_at births c.args.id ≡ None → ⊥
  born none = some-true c.last_at.result c.if-is_none.ensures (c.last_at.ensures ∙ (ap (λ xs. get_or xs c.args.id None) c.deref.ensures.value ∙ none))

  pushed : c.push.new.self.items ≡ births.cache ++ c.args.id ∷ []
  pushed =
      let few = undo-room c.requires.0 c.args.id births (held c.requires.0 c.requires.1) born in
      let room = c.self.invariant.cache in
      let used = c.self.invariant.used in
      let ok = c.self.inside.cache.ok in
      c.push.ensures.items ∙ ap (λ b. cond b (births.cache ++ c.args.id ∷ []) births.cache) (c.push.ensures.succeeds (omega arith))

  cached-alive : MarksLiving (fin.remove c.self.inside.alive.members c.args.id) c.requires.0
  cached-alive =
      let is = held c.requires.0 c.requires.1 in
      subst (λ i. MarksLiving (fin.remove c.self.inside.alive.members i) c.requires.0) (sym is.named)
      (marks-undone c.self.inside.alive.members c.requires.0 is.kept is.left (subst (MarksLiving c.self.inside.alive.members) is.run c.self.invariant.alive))

  cached-undone : (before : Births) → IsCreated before c.args.id c.args.self.now → record births { fresh = c.remove.new.self.members; cache = c.push.new.self.items } ≡ before
  cached-undone before is =
      ap (λ s. record births { fresh = s; cache = c.push.new.self.items }) c.remove.ensures.members
      ∙ (ap (λ xs. record births { fresh = fin.remove births.fresh c.args.id; cache = xs }) pushed
      ∙ undo-cached before c.args.id births (held before is) born)

-- an index that was never used is unused again
module _ (c : goal.After-pop) where
  abbrev unused : Births
  unused = births_of c.self.inside

  held-new : (before : Births) → IsCreated before c.args.id c.args.self.now → IsCreated before c.args.id unused
  held-new before is = subst (IsCreated before c.args.id) (sym c.self.view_is) is

  new-alive : MarksLiving (fin.remove c.self.inside.alive.members c.args.id) c.requires.0
  new-alive =
      let is = held-new c.requires.0 c.requires.1 in
      subst (λ i. MarksLiving (fin.remove c.self.inside.alive.members i) c.requires.0) (sym is.named)
      (marks-undone c.self.inside.alive.members c.requires.0 is.kept is.left (subst (MarksLiving c.self.inside.alive.members) is.run c.self.invariant.alive))

  unborn : persistent_at unused c.args.id ≡ None
  unborn = sym (c.last_at.ensures ∙ ap (λ xs. get_or xs c.args.id None) c.deref.ensures.value) ∙ some-false c.last_at.result c.if-is_none.ensures

  new-undone : (before : Births) → IsCreated before c.args.id c.args.self.now → record unused { persistent = c.pop.new.self.items; fresh = c.remove.new.self.members } ≡ before
  new-undone before is =
      let used = used-created before c.args.id unused (held-new before is) in
      let ok = c.self.inside.generations.ok in
      elim (last-there unused.persistent c.pop.new.self.items c.pop.result c.pop.ensures.items) [
        | inl none ↦ absurd (none (c.pop.ensures.variant.1 (omega arith)))
        | inr found ↦
            ap (λ s. record unused { persistent = c.pop.new.self.items; fresh = s }) c.remove.ensures.members
            ∙ undo-new before c.args.id unused (held-new before is) unborn c.pop.new.self.items found.0 found.1
      ]

pub returns-else-is_none : goal.returns-else-is_none
returns-else-is_none c = cached-undone c

pub returns-then-is_none : goal.returns-then-is_none
returns-then-is_none c = new-undone c

pub invariant_of-self-else-is_none : goal.invariant_of-self-else-is_none
invariant_of-self-else-is_none c = record {
  births = subst AreBirths (sym (cached-undone c c.requires.0 c.requires.1)) c.requires.1.kept;
  used = c.self.invariant.used;
  generations = c.self.invariant.generations;
  raised = let r = c.remove.ensures.room in let h = c.self.invariant.raised in omega arith;
  killed = c.self.invariant.killed;
  marked = c.self.invariant.marked;
  cache = let r = c.push.ensures.capacity in let h = c.self.invariant.cache in omega arith;
  unmarked = c.self.invariant.unmarked;
  alive_room = let r = c.remove-2.ensures.room in let h = c.self.invariant.alive_room in omega arith;
  alive = subst (MarksLiving c.remove-2.new.self.members) (sym (cached-undone c c.requires.0 c.requires.1)) (subst (λ s. MarksLiving s c.requires.0) (sym c.remove-2.ensures.members) (cached-alive c));
}

pub invariant_of-self : goal.invariant_of-self
invariant_of-self c =
    let old = c.self.inside.generations.ok in
    let new = c.pop.new.self.ok in
    let len = c.pop.ensures.len in
    let shorter : length c.pop.new.self.items ≤ length c.self.inside.generations.items = omega arith in
    record {
      births = subst AreBirths (sym (new-undone c c.requires.0 c.requires.1)) c.requires.1.kept;
      used = let h = c.self.invariant.used in omega arith;
      generations = let h = c.self.invariant.generations in let r = c.pop.ensures.capacity in omega arith;
      raised = let r = c.remove.ensures.room in let h = c.self.invariant.raised in omega arith;
      killed = c.self.invariant.killed;
      marked = c.self.invariant.marked;
      cache = c.self.invariant.cache;
      unmarked = c.self.invariant.unmarked;
      alive_room = let r = c.remove-2.ensures.room in let h = c.self.invariant.alive_room in omega arith;
      alive = subst (MarksLiving c.remove-2.new.self.members) (sym (new-undone c c.requires.0 c.requires.1)) (subst (λ s. MarksLiving s c.requires.0) (sym c.remove-2.ensures.members) (new-alive c));
    }
