-- Lemmas on those who may refer to others.
use Rattle.std.proofs.Common.{◌≡◌, ◌<◌, ◌⊎◌, inl, inr, ⊎_elim, ℕ, Bool, true, false, eqb, ◌||◌, List, [], ◌∷◌, ◌++◌, All, Some, is_some, refl, ap, sym, ◌∙◌, subst}
use Rattle.std.specs.Prelude.{IsSome}
use Rattle.std.specs.Option.{unwrap_or}
use Rattle.std.specs.List.{list_any}
use Rattle.std.proofs.lemmas.Bool.{false≢true, eqb-true, eq-eqb, or_right}
use Rattle.std.proofs.lemmas.List.Elements.{All-nil, All-cons, All-append}
use Rattle.std.proofs.lemmas.List.Folds.{list_any-append}
use Rattle.hibitset_sets.specs.Walk.{walk}
use Rattle.hibitset_sets.proofs.CallerLemmas.{any-walk}
use Rattle.specs_entity.specs.Births.{Births, IsAlive, living, persistent_at, entity_at}
use Rattle.specs_entity.specs.Life.{LifeAt, first_life}
use Rattle.scene_commands.specs.Gone.{AreLivingAt}

module _ (births : Births) (members : ℕ → Bool) where
  -- of those who live at the indices of a set some are listed, and the others stand at the indices that are left
  pub record Sorting (listed : List LifeAt) (left : List ℕ) : Type 0 where
    pub alive : All (IsAlive births) listed
    pub all : (entity : LifeAt) → IsAlive births entity → members entity.id ≡ true → (list_any (eqb entity.id) left ≡ true) ⊎ (list_any (λ one. eqb one.id entity.id) listed ≡ true)

  pub sorting-first : ((index : ℕ) → IsSome (living births index) → index < 16777216) → (listed : List LifeAt) (left : List ℕ) → listed ≡ [] → left ≡ walk members → Sorting listed left
  sorting-first below listed left none all = record {
    alive = subst (All (IsAlive births)) (sym none) (All-nil (IsAlive births));
    all = λ entity alive member. inl (subst (λ list. list_any (eqb entity.id) list ≡ true) (sym all) (any-walk members entity.id (below entity.id (ap is_some alive)) member));
  }

  pub sorting-last : (listed : List LifeAt) (left : List ℕ) → left ≡ [] → Sorting listed left → AreLivingAt births members listed
  sorting-last listed left none sorting = record {
    alive = sorting.alive;
    all = λ entity alive member. ⊎_elim (λ on. absurd (false≢true (sym (ap (list_any (eqb entity.id)) none) ∙ on))) (λ on. on) (sorting.all entity alive member);
  }

  module _ (listed : List LifeAt) (left rest : List ℕ) (index : ℕ) (entity : LifeAt) (is : left ≡ index ∷ rest) (at : entity ≡ entity_at births index) (sorting : Sorting listed left) where
    -- who lives at the next index is the entity there
    lives-there : (one : LifeAt) → IsAlive births one → one.id ≡ index → IsAlive births entity
    lives-there one alive same =
        let there : living births index ≡ Some one.generation = sym (ap (living births) same) ∙ alive in
        subst (IsAlive births) (sym at) (there ∙ ap Some (sym (ap (λ life. unwrap_or life (unwrap_or (persistent_at births index) first_life)) there)))

    -- whoever lives at one that was left lives at the next, or at one that still is, or is listed
    next : (one : LifeAt) → IsAlive births one → members one.id ≡ true → ((eqb one.id index || list_any (eqb one.id) rest) ≡ true) ⊎ (list_any (λ other. eqb other.id one.id) listed ≡ true)
    next one alive member = ⊎_elim (λ on. inl (sym (ap (list_any (eqb one.id)) is) ∙ on)) (λ on. inr on) (sorting.all one alive member)

    -- the entity at the next index lives and is listed
    pub sorting-taken : IsAlive births entity → (after : List LifeAt) → after ≡ listed ++ entity ∷ [] → Sorting after rest
    sorting-taken alive after then = record {
      alive = subst (All (IsAlive births)) (sym then) (All-append (IsAlive births) listed (entity ∷ []) sorting.alive (All-cons (IsAlive births) entity [] alive (All-nil (IsAlive births))));
      all = λ one lives member. by one (eqb one.id index) refl (next one lives member);
    }
      where
        whole : (one : LifeAt) → list_any (λ other. eqb other.id one.id) after ≡ (list_any (λ other. eqb other.id one.id) listed || (eqb entity.id one.id || false))
        whole one = ap (list_any (λ other. eqb other.id one.id)) then ∙ list_any-append (λ other. eqb other.id one.id) listed (entity ∷ [])

        last : (one : LifeAt) → one.id ≡ index → list_any (λ other. eqb other.id one.id) after ≡ true
        last one same =
            whole one ∙ or_right (list_any (λ other. eqb other.id one.id) listed) (eqb entity.id one.id || false)
            (ap (λ b. b || false) (eq-eqb entity.id one.id (ap (λ life. life.id) at ∙ sym same)))

        earlier : (one : LifeAt) → list_any (λ other. eqb other.id one.id) listed ≡ true → list_any (λ other. eqb other.id one.id) after ≡ true
        earlier one on = whole one ∙ ap (λ b. b || (eqb entity.id one.id || false)) on

        by : (one : LifeAt) (b : Bool) → eqb one.id index ≡ b → ((eqb one.id index || list_any (eqb one.id) rest) ≡ true) ⊎ (list_any (λ other. eqb other.id one.id) listed ≡ true)
            → (list_any (eqb one.id) rest ≡ true) ⊎ (list_any (λ other. eqb other.id one.id) after ≡ true)
        by one true same on = inr (last one (eqb-true one.id index same))
        by one false apart (inl on) = inl (sym (ap (λ b. b || list_any (eqb one.id) rest) apart) ∙ on)
        by one false apart (inr on) = inr (earlier one on)

    -- nobody lives there
    pub sorting-passed : (IsAlive births entity → ⊥) → Sorting listed rest
    sorting-passed dead = record { alive = sorting.alive; all = λ one lives member. by one lives (eqb one.id index) refl (next one lives member) }
      where
        by : (one : LifeAt) → IsAlive births one → (b : Bool) → eqb one.id index ≡ b → ((eqb one.id index || list_any (eqb one.id) rest) ≡ true) ⊎ (list_any (λ other. eqb other.id one.id) listed ≡ true)
            → (list_any (eqb one.id) rest ≡ true) ⊎ (list_any (λ other. eqb other.id one.id) listed ≡ true)
        by one lives true same on = absurd (dead (lives-there one lives (eqb-true one.id index same)))
        by one lives false apart (inl on) = inl (sym (ap (λ b. b || list_any (eqb one.id) rest) apart) ∙ on)
        by one lives false apart (inr on) = inr on
