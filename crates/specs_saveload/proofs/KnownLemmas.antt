-- Who is known by a marker, and who lives.
use Rattle.std.proofs.Common.{◌≡◌, IsSome, nat_eq, ℕ, Bool, true, false, cond, ◌&&◌, Option, Some, None, is_some, option_and_then, option_map, unwrap_or, refl, sym, ap, subst, ◌∙◌}
use Rattle.std.proofs.lemmas.Bool.{eqb-true, eq-eqb, false≢true, and_parts, and_from}
use Rattle.std.proofs.lemmas.Option.{same_Some}
use Rattle.specs_entity.specs.Births.{Births, IsAlive, living}
use Rattle.specs_entity.specs.Life.{Life, LifeAt}
use Rattle.specs_saveload.specs.Known.{IsSound, Known, bearer_at, lives_there}
use Rattle.specs_markers.specs.Marking.{IsKnown}
use Rattle.specs_saveload.specs.Saved.{same_birth, same_truth}

-- ---- whether an entity lives

truths : (a b : Bool) → same_truth a b ≡ true → a ≡ b
truths true true is = refl
truths true false is = absurd (false≢true is)
truths false true is = absurd (false≢true is)
truths false false is = refl

truth-itself : (a : Bool) → same_truth a a ≡ true
truth-itself true = refl
truth-itself false = refl

pub same-life : (one other : Life) → same_birth one other ≡ true → one ≡ other
same-life one other is =
    let parts = and_parts (nat_eq one.number other.number) (same_truth one.lives other.lives) is in
    let number = eqb-true one.number other.number parts.0 in
    let lives = truths one.lives other.lives parts.1 in
    λ i. record { number = number i; lives = lives i }

pub life-itself : (life : Life) → same_birth life life ≡ true
life-itself life = and_from (nat_eq life.number life.number) (same_truth life.lives life.lives) (eq-eqb life.number life.number refl) (truth-itself life.lives)

lives-as : (o : Option Life) (life : Life) → unwrap_or (option_map (λ l. same_birth l life) o) false ≡ true → o ≡ Some life
lives-as None life is = absurd (false≢true is)
lives-as (Some one) life is = ap Some (same-life one life is)

pub there-lives : (births : Births) (entity : LifeAt) → lives_there births entity ≡ true → IsAlive births entity
there-lives births entity is = lives-as (living births entity.id) entity.generation is

pub lives-there : (births : Births) (entity : LifeAt) → IsAlive births entity → lives_there births entity ≡ true
lives-there births entity alive = ap (λ (o : Option Life). unwrap_or (option_map (λ l. same_birth l entity.generation) o) false) alive ∙ life-itself entity.generation

-- ---- who is known

module _ {A S M I : Type 0} (noted : A → I → Option LifeAt) (part_at : S → ℕ → Option M) (id_of : M → I) where
  module _ (known : Known A S) (marker : M) (entity : LifeAt) where
    chosen : (b : Bool) (other : LifeAt) → cond b (Some other) None ≡ Some entity → (b ≡ true) × (other ≡ entity)
    chosen true other is = (refl, ap (unwrap_or_one other) is)
      where
        unwrap_or_one : LifeAt → Option LifeAt → LifeAt
        unwrap_or_one default None = default
        unwrap_or_one default (Some one) = one
    chosen false other is = absurd (false≢true (ap is_some is))

    known-of : (o : Option LifeAt) → noted known.allocator (id_of marker) ≡ o → option_and_then (λ other. cond (lives_there known.births other && is_some (part_at known.markers.inner other.id)) (Some other) None) o ≡ Some entity → IsKnown noted part_at (id_of marker) known.births known.allocator known.markers entity
    known-of None under is = absurd (false≢true (ap is_some is))
    known-of (Some other) under is =
        let choice = chosen (lives_there known.births other && is_some (part_at known.markers.inner other.id)) other is in
        let parts = and_parts (lives_there known.births other) (is_some (part_at known.markers.inner other.id)) choice.0 in
        record {
          under = under ∙ ap Some choice.1;
          alive = subst (IsAlive known.births) choice.1 (there-lives known.births other parts.0);
          marked = subst (λ (e : LifeAt). IsSome (part_at known.markers.inner e.id)) choice.1 parts.1;
        }

    -- a bearer is known
    pub bearer-known : bearer_at noted part_at id_of known marker ≡ Some entity → IsKnown noted part_at (id_of marker) known.births known.allocator known.markers entity
    bearer-known is = known-of (noted known.allocator (id_of marker)) refl is

    -- and who is known is the bearer
    pub known-bearer : IsKnown noted part_at (id_of marker) known.births known.allocator known.markers entity → bearer_at noted part_at id_of known marker ≡ Some entity
    known-bearer is =
        ap (option_and_then (λ (other : LifeAt). cond (lives_there known.births other && is_some (part_at known.markers.inner other.id)) (Some other) None)) is.under
        ∙ ap (λ b. cond b (Some entity) None) (and_from (lives_there known.births entity) (is_some (part_at known.markers.inner entity.id)) (lives-there known.births entity is.alive) is.marked)

  -- and alive
  pub bearer-alive : (known : Known A S) (marker : M) (entity : LifeAt) → bearer_at noted part_at id_of known marker ≡ Some entity → IsAlive known.births entity
  bearer-alive known marker entity is = (bearer-known known marker entity is).alive

  -- of two known bearers at one index the markers are one, where each has just the marker that it is known by
  pub bearers-apart : ((one other : M) → id_of one ≡ id_of other → one ≡ other) → (known : Known A S) → IsSound noted part_at id_of known → (one other : M) (entity entity' : LifeAt) → bearer_at noted part_at id_of known one ≡ Some entity → bearer_at noted part_at id_of known other ≡ Some entity' → entity.id ≡ entity'.id → one ≡ other
  bearers-apart by_id known sound one other entity entity' bears bears' same =
      by_id one other (same_Some (id_of one) (id_of other) (sym (sound.named one entity bears) ∙ (ap (λ index. option_map id_of (part_at known.markers.inner index)) same ∙ sound.named other entity' bears')))
