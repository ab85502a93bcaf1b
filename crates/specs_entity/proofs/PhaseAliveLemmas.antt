-- Who lives in a phase, by the last persistent birth of an index and its bit in the raised set.
use Rattle.std.proofs.Common.{◌≡◌, ◌⊎◌, ℕ, ◌+◌, ◌*◌, ◌<◌, ◌≤◌, Bool, true, false, Option, Some, None, refl, sym, ap, ◌∙◌, subst, arith, inl, inr, ⊎_elim}
use Rattle.std.specs.FinSet as fin
use Rattle.specs_entity.specs.Life.{Life, LifeAt}
use Rattle.specs_entity.specs.Births.{persistent_at, alive_of, number_of, next_life, CanCreate, IsAlive}
use Rattle.specs_entity.specs.Layout.{AreBirths}
use Rattle.specs_entity.specs.declared.phase_rule.PhaseKey.{PhaseKey}
use Rattle.specs_entity.specs.declared.phase_rule.EntityView.{EntityView}
use Rattle.specs_entity.specs.PhaseCore.{index_at, IsReserved}
use Rattle.specs_entity.specs.PhaseViews.{setting_of, reserved, IsAfter, IsNext, IsGiven, HasRaised, HasSeen, Knows, Finds, MayLive}
use Rattle.std.specs.Option.{is_some}
use Rattle.specs_entity.proofs.BirthLemmas.{some-none, living-fresh, living-lasting, used-living}
use Rattle.specs_entity.proofs.PhaseReserveLemmas.{reserved-next, index-reserved}

-- what was raised at `share`, or is at a place of the reserve
abbrev pub MayRaise : EntityView → ℕ → Type 0
MayRaise view index = (fin.contains view.key.before.fresh index ≡ true) ⊎ ((place : ℕ) × (place < view.key.reserve) × (index_at (setting_of view.key) place ≡ index))

-- what a view knows raised
abbrev pub KnowsRaised : EntityView → ℕ → Type 0
KnowsRaised view index = (fin.contains view.key.before.fresh index ≡ true) ⊎ (HasRaised view index ⊎ HasSeen view index)

module _ (key : PhaseKey) (kept : AreBirths key.before) (entity : LifeAt) where
  abbrev last : Option Life
  last = persistent_at key.before entity.id

  dead-unlike : {P : Type 0} → alive_of last ≡ None → alive_of last ≡ Some entity.generation → P
  dead-unlike dead alive = absurd (some-none entity.generation (sym alive ∙ dead))

  -- alive of the last persistent birth is alive
  pub persistent-alive : alive_of last ≡ Some entity.generation → IsAlive key.before entity
  persistent-alive alive = by (fin.contains key.before.fresh entity.id) refl
    where
      by : (fresh : Bool) → fin.contains key.before.fresh entity.id ≡ fresh → IsAlive key.before entity
      by true is = dead-unlike (kept.fresh_dead entity.id is) alive
      by false is = living-lasting key.before entity.id is ∙ alive

  -- who is alive is so of the last persistent birth, or of a fresh one after it
  pub alive-cases : IsAlive key.before entity → (alive_of last ≡ Some entity.generation) ⊎ ((fin.contains key.before.fresh entity.id ≡ true) × IsNext key.before entity)
  alive-cases alive = by (fin.contains key.before.fresh entity.id) refl
    where
      by : (fresh : Bool) → fin.contains key.before.fresh entity.id ≡ fresh → (alive_of last ≡ Some entity.generation) ⊎ ((fin.contains key.before.fresh entity.id ≡ true) × IsNext key.before entity)
      by true is = inr (is, (kept.fresh_dead entity.id is, same entity.generation (next_life last) (sym alive ∙ living-fresh key.before entity.id is)))
        where
          same : (one other : Life) → Some one ≡ Some other → one ≡ other
          same one other equal = cc
      by false is = inl (sym (living-lasting key.before entity.id is) ∙ alive)

  pub after-next : (born : ℕ) → born ≡ number_of last → alive_of last ≡ None → IsAfter born entity.generation → IsNext key.before entity
  after-next born is dead after = (dead, λ j. record { number = (after.0 ∙ ap (λ n. n + 1) is) j; lives = after.1 j })

  pub next-after : (born : ℕ) → born ≡ number_of last → IsNext key.before entity → IsAfter born entity.generation
  next-after born is next = (ap (λ (life : Life). life.number) next.1 ∙ ap (λ n. n + 1) (sym is), ap (λ (life : Life). life.lives) next.1)

  -- one that comes next, and at whose index was raised at `share` or by one of the first of the reserve, was alive at `share` or is one of these
  given-at : CanCreate key.reserve key.before → (count : ℕ) → count ≤ key.reserve → IsNext key.before entity
      → (fin.contains key.before.fresh entity.id ≡ true) ⊎ IsReserved (setting_of key) count entity.id → IsAlive key.before entity ⊎ IsGiven key count entity
  given-at can count most next raised = ⊎_elim
      (λ fresh. inl (living-fresh key.before entity.id fresh ∙ ap Some (sym next.1)))
      (λ (at : IsReserved (setting_of key) count entity.id).
      let low : at.0 < key.reserve = let below = at.1 in omega (arith, below, most) in
      let index : (reserved key at.0).id ≡ entity.id = sym (index-reserved key kept at.0) ∙ at.2 in
      let generation : (reserved key at.0).generation ≡ entity.generation = (reserved-next key kept can at.0 low).1 ∙ ap (λ i. next_life (persistent_at key.before i)) index ∙ sym next.1 in
      inr (at.0, at.1, λ j. record { id = index j; generation = generation j })) raised

  module _ (view : EntityView) (same : view.key ≡ key) where
    -- an entity that the last persistent birth rules out isn't known
    pub unknown : (alive_of last ≡ Some entity.generation → ⊥) → (IsNext key.before entity → ⊥) → Knows view entity → ⊥
    unknown not_alive not_next known = ⊎_elim
        (λ alive. ⊎_elim not_alive (λ fresh. not_next fresh.1) (alive-cases (subst (λ (k : PhaseKey). IsAlive k.before entity) same alive)))
        (λ other. not_next (subst (λ (k : PhaseKey). IsNext k.before entity) same other.0)) known

    -- one that comes next and is known is known raised
    pub known-raised : IsNext key.before entity → Knows view entity → KnowsRaised view entity.id
    known-raised next known = ⊎_elim
        (λ alive. ⊎_elim (λ persistent. dead-unlike next.0 persistent) (λ fresh. inl (ap (λ (k : PhaseKey). fin.contains k.before.fresh entity.id) same ∙ fresh.0)) (alive-cases (subst (λ (k : PhaseKey). IsAlive k.before entity) same alive)))
        (λ other. inr other.2) known

    -- and raised, it was alive at `share` or is of the reserve
    pub raised-may : CanCreate key.reserve key.before → IsNext key.before entity → MayRaise view entity.id → MayLive key entity
    raised-may can next raised = given-at can key.reserve (omega arith) next (subst (λ (k : PhaseKey). (fin.contains k.before.fresh entity.id ≡ true) ⊎ IsReserved (setting_of k) k.reserve entity.id) same raised)

    -- who is known was alive at `share`, or is of the first of the reserve where these are all that were raised
    pub known-given : CanCreate key.reserve key.before → (count : ℕ) → count ≤ key.reserve
        → ((index : ℕ) → index < 64 * (setting_of key).sizes.first → HasRaised view index ⊎ HasSeen view index → (fin.contains key.before.fresh index ≡ true) ⊎ IsReserved (setting_of key) count index)
        → Knows view entity → IsAlive key.before entity ⊎ IsGiven key count entity
    known-given can count most raised known = ⊎_elim
        (λ alive. inl (subst (λ (k : PhaseKey). IsAlive k.before entity) same alive))
        (λ other.
        let next : IsNext key.before entity = subst (λ (k : PhaseKey). IsNext k.before entity) same other.0 in
        let within : entity.id < 64 * (setting_of key).sizes.first = subst (λ (k : PhaseKey). entity.id < 64 * (setting_of k).sizes.first) same other.1 in
        given-at can count most next (raised entity.id within other.2)) known

-- an entity that a view found is within the layers, and the view knows that one has lived at its index
module _ (key : PhaseKey) (kept : AreBirths key.before) (entity : LifeAt) (view : EntityView) (same : view.key ≡ key) (finds : Finds view entity) where
  pub finds-within : entity.id < 64 * (setting_of key).sizes.first
  finds-within = ⊎_elim
      (λ alive. let used = used-living key.before kept entity.id (λ none_there. some-none entity.generation (sym (subst (λ (k : PhaseKey). IsAlive k.before entity) same alive) ∙ none_there)) in let most = kept.used in let indices = kept.indices in omega (arith, used, most, indices))
      (λ other. subst (λ (k : PhaseKey). entity.id < 64 * (setting_of k).sizes.first) same other.1) finds

  pub finds-lived : ((setting_of key).lives entity.id ≡ true) ⊎ HasSeen view entity.id
  finds-lived = ⊎_elim (λ alive. inl (ap is_some (subst (λ (k : PhaseKey). IsAlive k.before entity) same alive))) (λ other. inr other.2) finds
