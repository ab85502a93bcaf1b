use Rattle.std.proofs.Common.{◌≡◌, ◌<◌, ◌-◌, ◌++◌, ◌∷◌, [], None, cond, length, take, ap, sym, ◌∙◌, subst, arith}
use Rattle.std.proofs.lemmas.Bool.{true≢false}
use Rattle.specs_entity.specs.Births.{Births, MarksLiving, with_next_taken, next_index, IndicesAreSpent}
use Rattle.specs_entity.specs.Layout.{IsFree, AreBirths, births_of}
use Rattle.specs_entity.proofs.BirthLemmas.{next-taken, nil-length, taken-popped, taken-opened}
use Rattle.specs_entity.proofs.AliveLemmas.{marks-taken}
use Rattle.specs_entity.proofs.entities_res.EntitiesRes.take_next.Goals as goal

pub invariant_of-self : goal.invariant_of-self
invariant_of-self c =
    let births : Births = births_of c.self.inside in
    let kept : AreBirths births = c.self.invariant.births in
    let left = subst (λ (b : Births). IndicesAreSpent b → ⊥) (sym c.self.view_is) c.requires in
    let ok = c.self.inside.cache.ok in
    let some = c.pop.ensures.variant.0 (sym c.is_some.ensures ∙ c.if-is_some.true) in
    let popped = taken-popped births c.pop.new.self.items (omega arith) (c.pop.ensures.rest ∙ ap (λ n. take (n - 1) births.cache) ok.0) in
    record {
      births = subst AreBirths (sym popped) (next-taken births kept left).kept;
      used = c.self.invariant.used;
      generations = c.self.invariant.generations;
      raised = c.self.invariant.raised;
      killed = c.self.invariant.killed;
      marked = c.self.invariant.marked;
      cache = let h = c.self.invariant.cache in let r = c.pop.ensures.capacity in omega arith;
      unmarked = c.self.invariant.unmarked;
      alive_room = c.self.invariant.alive_room;
      alive = subst (MarksLiving c.self.inside.alive.members) (sym popped) (marks-taken c.self.inside.alive.members births kept left c.self.invariant.alive);
    }

pub returns-then-is_some-clause-free : goal.returns-then-is_some-clause-free
returns-then-is_some-clause-free c =
    let births : Births = births_of c.self.inside in
    let left = subst (λ (b : Births). IndicesAreSpent b → ⊥) (sym c.self.view_is) c.requires in
    let ok = c.self.inside.cache.ok in
    let some = c.pop.ensures.variant.0 (sym c.is_some.ensures ∙ c.if-is_some.true) in
    let popped = taken-popped births c.pop.new.self.items (omega arith) (c.pop.ensures.rest ∙ ap (λ n. take (n - 1) births.cache) ok.0) in
    subst (λ (b : Births). IsFree b (next_index c.args.self.now)) (sym popped)
    (subst (λ (b : Births). IsFree (with_next_taken births) (next_index b)) c.self.view_is (next-taken births c.self.invariant.births left).free)

pub invariant_of-self-then-len-self : goal.invariant_of-self-then-len-self
invariant_of-self-then-len-self c =
    let births : Births = births_of c.self.inside in
    let kept : AreBirths births = c.self.invariant.births in
    let left = subst (λ (b : Births). IndicesAreSpent b → ⊥) (sym c.self.view_is) c.requires in
    let cached = c.self.inside.cache.ok in
    let nothing : 0 < c.self.inside.cache.len → ⊥ = λ h. true≢false (sym (c.pop.ensures.variant.1 h) ∙ (sym c.is_some.ensures ∙ c.if-is_some.false)) in
    let empty : births.cache ≡ [] = nil-length births.cache (omega arith) in
    let used = c.self.inside.generations.ok in
    let room = c.self.invariant.generations in
    let here = c.len.ensures in
    let below = c.if-len-self.true in
    let pushed = c.push.ensures.succeeds (omega arith) in
    let items = c.push.ensures.items ∙ ap (λ b. cond b (births.persistent ++ None ∷ []) births.persistent) pushed in
    let rest = c.pop.ensures.rest ∙ (ap (λ (n : _). take (n - 1) births.cache) cached.0 ∙ (ap (λ xs. take (length xs - 1) xs) empty ∙ sym empty)) in
    let opened = taken-opened births c.push.new.self.items c.pop.new.self.items empty rest items in
    let long = c.push.ensures.len in
    let grown = c.push.new.self.ok in
    record {
      births = subst AreBirths (sym opened) (next-taken births kept left).kept;
      used = omega arith;
      generations = let r = c.push.ensures.capacity in omega arith;
      raised = c.self.invariant.raised;
      killed = c.self.invariant.killed;
      marked = c.self.invariant.marked;
      cache = let h = c.self.invariant.cache in let r = c.pop.ensures.capacity in omega arith;
      unmarked = c.self.invariant.unmarked;
      alive_room = c.self.invariant.alive_room;
      alive = subst (MarksLiving c.self.inside.alive.members) (sym opened) (marks-taken c.self.inside.alive.members births kept left c.self.invariant.alive);
    }
