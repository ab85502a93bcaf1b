-- Deletions that are accepted along a walk: of the entities at those of its indices that are due, and no others.
use Rattle.std.proofs.Common.{◌≡◌, ◌<◌, ◌↔◌, ℕ, Bool, true, false, cond, eqb, ◌&&◌, ◌||◌, List, [], ◌∷◌, Option, None, Some, is_some, Result, Ok, Err, OnOk, refl, sym, ap, subst, ◌∙◌}
use Rattle.std.specs.Prelude.{IsOk, OnErr}
use Rattle.std.specs.Option.{unwrap_or}
use Rattle.std.specs.FinSet as set
use Rattle.std.specs.List.{list_any}
use Rattle.std.proofs.lemmas.Bool.{eqb-true, false≢true, true≢false}
use Rattle.hibitset_sets.specs.Walk.{walk}
use Rattle.hibitset_sets.proofs.CallerLemmas.{any-walk, contains-with}
use Rattle.specs_entity.specs.Births.{Births, deleted, entity_at, living, persistent_at}
use Rattle.specs_entity.specs.Life.{Life, first_life}
use Rattle.specs_entity.specs.declared.ids.Entity.{Entity}

-- the deletion of the entity at an index was asked for, which is due: it was accepted where one lives there
pub deletion-asked : {E : Type 0} (before after : Births) (id : ℕ) (entity : Entity) → entity ≡ entity_at before id → (r : Result (Unit {0}) E) → OnOk r (after ≡ deleted before entity.id)
    → (IsOk r ↔ (living before entity.id ≡ Some entity.generation)) → OnErr r (after ≡ before) → (due : Bool) → due ≡ true → after ≡ cond (due && is_some (living before id)) (deleted before id) before
deletion-asked before after id entity is r ok succeeds err due now = by r ok succeeds err ∙ sym (ap (λ due. cond (due && is_some (living before id)) (deleted before id) before) now)
  where
    none : (o : Option Life) → living before id ≡ o → ((living before id ≡ Some (entity_at before id).generation) → ⊥) → before ≡ cond (is_some o) (deleted before id) before
    none None e never = refl
    none (Some life) e never = absurd (never (e ∙ sym (ap (λ o. Some (unwrap_or o (unwrap_or (persistent_at before id) first_life))) e)))

    by : {E : Type 0} (r : Result (Unit {0}) E) → OnOk r (after ≡ deleted before entity.id) → (IsOk r ↔ (living before entity.id ≡ Some entity.generation)) → OnErr r (after ≡ before)
        → after ≡ cond (is_some (living before id)) (deleted before id) before
    by (Ok done) ok succeeds err =
        let there : living before id ≡ Some entity.generation = subst (λ (e : Entity). living before e.id ≡ Some entity.generation) is (succeeds.0 refl) in
        ok ∙ ap (λ (e : Entity). deleted before e.id) is ∙ sym (ap (λ o. cond (is_some o) (deleted before id) before) there)
    by (Err why) ok succeeds err = err ∙ none (living before id) refl (λ there. absurd (false≢true (succeeds.1 (subst (λ (e : Entity). living before e.id ≡ Some e.generation) (sym is) there))))

-- where all that is due is left, nothing else is to come
all-left : (due left : Bool) → (due ≡ true → left ≡ true) → (due && left) ≡ due
all-left true left is = is refl
all-left false left is = refl

none-left : (member due : Bool) → (member || due && false) ≡ member
none-left true due = refl
none-left false true = refl
none-left false false = refl

-- one index is looked at: it is a member then if it is due, and the others stay
one-less : (due at member rest here : Bool) → (at ≡ true → here ≡ due) → ((here && at || member) || due && rest) ≡ (member || due && (at || rest))
one-less true true true rest true is = refl
one-less true true false rest true is = refl
one-less false true member rest false is = refl
one-less true true member rest false is = absurd (false≢true (is refl))
one-less false true member rest true is = absurd (true≢false (is refl))
one-less due false member rest true is = refl
one-less due false member rest false is = refl

module _ (come : ℕ → Bool) (before : Births) where
  -- an entity lives at an index that has come to its goal
  abbrev due : ℕ → Bool
  due index = come index && is_some (living before index)

  -- the deletions that are accepted, and those due at the indices that are left, are all
  pub record Accepting (now : Births) (left : List ℕ) : Type 0 where
    pub same : now ≡ record before { deletions = now.deletions }
    pub all : (index : ℕ) → (set.contains now.deletions index || due index && list_any (λ other. eqb index other) left) ≡ (set.contains before.deletions index || due index)

  pub accepting-start : (members : ℕ → Bool) → ((index : ℕ) → due index ≡ true → members index ≡ true) → ((index : ℕ) → members index ≡ true → index < 16777216) → Accepting before (walk members)
  accepting-start members has range =
      record { same = refl; all = λ index. ap (λ b. set.contains before.deletions index || b) (all-left (due index) _ (λ is. any-walk members index (range index (has index is)) (has index is))) }

  pub accepting-next : (now next : Births) (id : ℕ) (left rest : List ℕ) → left ≡ id ∷ rest → Accepting now left → next ≡ cond (come id && is_some (living now id)) (deleted now id) now → Accepting next rest
  accepting-next now next id left rest steps had is = record {
    same = same (due id) lives ∙ ap (λ s. record before { deletions = s }) (sym (ap (λ (b : Births). b.deletions) lives));
    all = λ index. ap (λ b. b || due index && list_any (λ other. eqb index other) rest) (has index (due id) lives)
        ∙ (one-less (due index) (eqb index id) (set.contains now.deletions index) _ (due id) (λ here. ap due (sym (eqb-true index id here))) ∙ so.all index);
  }
    where
      so : Accepting now (id ∷ rest)
      so = subst (Accepting now) steps had

      lives : next ≡ cond (due id) (deleted now id) now
      lives = is ∙ ap (λ (b : Births). cond (come id && is_some (living b id)) (deleted now id) now) so.same

      has : (index : ℕ) (b : Bool) → next ≡ cond b (deleted now id) now → set.contains next.deletions index ≡ (b && eqb index id || set.contains now.deletions index)
      has index true is = ap (λ (b : Births). set.contains b.deletions index) is ∙ contains-with now.deletions id index
      has index false is = ap (λ (b : Births). set.contains b.deletions index) is

      same : (b : Bool) → next ≡ cond b (deleted now id) now → next ≡ record before { deletions = (cond b (deleted now id) now).deletions }
      same true is = is ∙ ap (λ (b : Births). record b { deletions = set.insert now.deletions id }) so.same
      same false is = is ∙ so.same

  pub accepting-end : (now : Births) (left : List ℕ) → left ≡ [] → Accepting now left → (index : ℕ) → set.contains now.deletions index ≡ (set.contains before.deletions index || due index)
  accepting-end now left none had index = sym (none-left (set.contains now.deletions index) (due index)) ∙ (subst (Accepting now) none had).all index
