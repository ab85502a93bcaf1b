-- Lemmas on ids and the indices at which they are marked.
use Rattle.std.proofs.Common.{◌≡◌, ℕ, Bool, true, false, cond, eqb, ◌||◌, ◌&&◌, List, [], ◌∷◌, Option, Some, None, filter, refl, ap, sym, ◌∙◌, subst}
use Rattle.std.specs.Prelude.{is_some, option_and_then, option_map}
use Rattle.std.specs.List.{list_any}
use Rattle.std.specs.Ordering.{nat_cmp, is_eq}
use Rattle.std.specs.FinMap as map
use Rattle.std.proofs.lemmas.Bool.{true≢false, false≢true, eqb-true, eq-eqb, and_parts}
use Rattle.std.specs.FinSet as set
use Rattle.specs_entity.specs.Births.{Births, IsAlive, living, living_of, alive_of, persistent_at}
use Rattle.specs_entity.specs.Life.{Life, LifeAt}
use Rattle.specs_markers.specs.Simple.{Noting, noted_under}
use Rattle.scene_model.specs.Parts.{Part, gone, living as reaching}
use Rattle.scene_model.specs.Scenes.{lives, IdsAscend}
use Rattle.scene_model.proofs.CallerLemmas.{is_eq-nat_cmp, lives-ascending, in_order-ascends, lives-kept}
use Rattle.scene_world.specs.Stored.{Stored, part_under}
use Rattle.scene_world.specs.Rolls.{Roll, is_life, is_id, reference, index_if, index_of, ids_in, id_at, ref_to, part_in, IsRoll}

-- ---- tests

-- whether two numbers are equal, told the other way round
pub eqb-turned : (a b : ℕ) → eqb a b ≡ eqb b a
eqb-turned a b = by (eqb a b) refl
  where
    back : (t : Bool) → eqb b a ≡ t → eqb a b ≡ false → t ≡ false
    back true f e = absurd (true≢false (sym (eq-eqb a b (sym (eqb-true b a f))) ∙ e))
    back false f e = refl

    by : (t : Bool) → eqb a b ≡ t → eqb a b ≡ eqb b a
    by true e = e ∙ sym (eq-eqb b a (sym (eqb-true a b e)))
    by false e = e ∙ sym (back (eqb b a) refl e)

pub is-id : (id : ℕ) (o : Option ℕ) → is_id id o ≡ true → o ≡ Some id
is-id id None e = cc
is-id id (Some other) e = ap Some (eqb-true other id e)

id-is : (id : ℕ) (o : Option ℕ) → o ≡ Some id → is_id id o ≡ true
id-is id o e = subst (λ x. is_id id x ≡ true) (sym e) (eq-eqb id id refl)

-- what lives is alive
pub living-lives : (births : Births) (index : ℕ) (life : Life) → living births index ≡ Some life → life.lives ≡ true
living-lives births index life = by (set.contains births.fresh index) (persistent_at births index)
  where
    alive : (last : Option Life) → alive_of last ≡ Some life → life.lives ≡ true
    alive None e = cc
    alive (Some one) e = at one.lives refl e
      where
        at : (b : Bool) → one.lives ≡ b → cond b (Some one) None ≡ Some life → life.lives ≡ true
        at true is e = let same : one ≡ life = cc in subst (λ l. l.lives ≡ true) same is
        at false is e = cc

    by : (fresh : Bool) (last : Option Life) → living_of fresh last ≡ Some life → life.lives ≡ true
    by true last e = let h : ◌≡◌ {A = Option Life} _ (Some life) = e in alive-next last h
      where
        alive-next : (last : Option Life) → living_of true last ≡ Some life → life.lives ≡ true
        alive-next None e = cc
        alive-next (Some one) e = cc
    by false last e = alive last e

-- what is of its own life
pub same-life : (life : Life) → life.lives ≡ true → is_life life (Some life) ≡ true
same-life life e = ap (λ b. b && eqb life.number life.number) e ∙ eq-eqb life.number life.number refl

-- what is of a life that lives is that life
pub life-is : (life other : Life) → other.lives ≡ true → is_life life (Some other) ≡ true → other ≡ life
life-is life other lives_it is =
    let both = and_parts life.lives (eqb other.number life.number) is in
    ap (λ n. let x : Life = record { number = n; lives = other.lives } in x) (eqb-true other.number life.number both.1)
    ∙ ap (λ b. let x : Life = record { number = life.number; lives = b } in x) (lives_it ∙ sym both.0)

pub life-there : (life : Life) (o : Option Life) → is_life life o ≡ true → is_some o ≡ true
life-there life None e = e
life-there life (Some other) e = refl

-- what is there under a test
there-so : {A : Type 0} (b : Bool) (o : Option A) (a : A) → cond b o None ≡ Some a → (b ≡ true) × (o ≡ Some a)
there-so true o a e = (refl, e)
there-so false o a e = cc

some-of : {A : Type 0} (o : Option A) → is_some o ≡ true → (a : A) × (o ≡ Some a)
some-of None e = absurd (false≢true e)
some-of (Some a) e = (a, refl)

-- the ids under which something is noted are the keys of the map
keys-noted : (noting : Noting) (id : ℕ) → lives id (map.keys noting.noted) ≡ is_some (noted_under noting id)
keys-noted noting id = by (map.keys noting.noted) ∙ sym (map.contains_key-keys noting.noted id)
  where
    by : (keys : List ℕ) → lives id keys ≡ list_any (λ key. is_eq (nat_cmp id key)) keys
    by [] = refl
    by (key ∷ keys) = ap (λ b. b || lives id keys) (sym (is_eq-nat_cmp id key)) ∙ ap (λ b. is_eq (nat_cmp id key) || b) (by keys)

module _ (roll : Roll) where
  -- an index with an id is that of an entity that lives
  pub id-lives : (id index : ℕ) → id_at roll index ≡ Some id → is_some (living roll.births index) ≡ true
  id-lives id index e = (there-so (is_some (living roll.births index)) (roll.marker index) id e).0

  pub id-marks : (id index : ℕ) → id_at roll index ≡ Some id → roll.marker index ≡ Some id
  id-marks id index e = (there-so (is_some (living roll.births index)) (roll.marker index) id e).1

  -- at the index of an id stands the id
  pub id-at-index : (id index : ℕ) → index_of roll id ≡ Some index → id_at roll index ≡ Some id
  id-at-index id index e = by (noted_under roll.noting id) e
    where
      at : (entity : LifeAt) (b : Bool) → (is_life entity.generation (living roll.births entity.id) && is_id id (roll.marker entity.id)) ≡ b → cond b (Some entity.id) None ≡ Some index → id_at roll index ≡ Some id
      at entity true is e =
          let same : entity.id ≡ index = cc in
          let both = and_parts (is_life entity.generation (living roll.births entity.id)) (is_id id (roll.marker entity.id)) is in
          subst (λ i. id_at roll i ≡ Some id) same
          (ap (λ b. cond b (roll.marker entity.id) None) (life-there entity.generation (living roll.births entity.id) both.0) ∙ is-id id (roll.marker entity.id) both.1)
      at entity false is e = cc

      by : (o : Option LifeAt) → option_and_then (index_if roll id) o ≡ Some index → id_at roll index ≡ Some id
      by None e = cc
      by (Some entity) e = at entity _ refl e

  -- an id lives where it has an index
  pub lives-index : (id : ℕ) → lives id (ids_in roll) ≡ is_some (index_of roll id)
  lives-index id =
      lives-ascending id (filter (λ one. is_some (index_of roll one)) (map.keys roll.noting.noted))
      ∙ lives-kept (λ one. is_some (index_of roll one)) id (map.keys roll.noting.noted)
      ∙ ap (λ b. b && is_some (index_of roll id)) (keys-noted roll.noting id) ∙ by (noted_under roll.noting id)
    where
      by : (o : Option LifeAt) → (is_some o && is_some (option_and_then (index_if roll id) o)) ≡ is_some (option_and_then (index_if roll id) o)
      by None = refl
      by (Some entity) = refl

  -- the ids ascend
  pub ids-ascend : IdsAscend (ids_in roll)
  ids-ascend = in_order-ascends (filter (λ one. is_some (index_of roll one)) (map.keys roll.noting.noted))

  -- a part is that of an id that has an index
  pub part-lives : (column : ℕ → Option Stored) (id : ℕ) (held : Part) → part_in roll column id ≡ Some held → lives id (ids_in roll) ≡ true
  part-lives column id held e = lives-index id ∙ by (index_of roll id) e
    where
      by : (o : Option ℕ) → option_and_then (λ index. option_map (part_under (ref_to roll)) (column index)) o ≡ Some held → is_some o ≡ true
      by None e = cc
      by (Some index) e = refl

-- an entity that is alive is a reference to the id at its index, and another to none
pub alive-reaches : (roll : Roll) (entity : LifeAt) (id : ℕ) → IsAlive roll.births entity → roll.marker entity.id ≡ Some id → ref_to roll entity ≡ reaching id
alive-reaches roll entity id alive marks =
    ap (λ b. reference (cond b (id_at roll entity.id) None)) (ap (is_life entity.generation) alive ∙ same-life entity.generation (living-lives roll.births entity.id entity.generation alive))
    ∙ ap (λ l. reference (cond (is_some l) (roll.marker entity.id) None)) alive ∙ ap reference marks

pub stale-gone : (roll : Roll) (entity : LifeAt) → ¬ (IsAlive roll.births entity) → ref_to roll entity ≡ gone
stale-gone roll entity dead = by (living roll.births entity.id) refl
  where
    at : (life : Life) → living roll.births entity.id ≡ Some life → (b : Bool) → is_life entity.generation (Some life) ≡ b → reference (cond b (id_at roll entity.id) None) ≡ gone
    at life e true is = absurd (dead (e ∙ ap Some (life-is entity.generation life (living-lives roll.births entity.id life e) is)))
    at life e false is = refl

    by : (o : Option Life) → living roll.births entity.id ≡ o → ref_to roll entity ≡ gone
    by None e = ap (λ l. reference (cond (is_life entity.generation l) (id_at roll entity.id) None)) e
    by (Some life) e = ap (λ l. reference (cond (is_life entity.generation l) (id_at roll entity.id) None)) e ∙ at life e (is_life entity.generation (Some life)) refl

module _ (roll : Roll) (is : IsRoll roll) where
  -- under the id of an entity that lives it is noted
  pub id-noted : (id index : ℕ) (life : Life) → id_at roll index ≡ Some id → living roll.births index ≡ Some life → noted_under roll.noting id ≡ Some (record { id = index; generation = life })
  id-noted id index life e lives_it =
      let marks = is.marked index life lives_it in
      let both : Some marks.0 ≡ Some id = sym marks.1.marker ∙ id-marks roll id index e in
      let same : marks.0 ≡ id = cc in
      subst (λ one. noted_under roll.noting one ≡ Some (record { id = index; generation = life })) same marks.1.noted

  -- the index at which an id stands is that of the id
  pub index-of-id : (id index : ℕ) → id_at roll index ≡ Some id → index_of roll id ≡ Some index
  index-of-id id index e =
      let there = some-of (living roll.births index) (id-lives roll id index e) in
      ap (option_and_then (index_if roll id)) (id-noted id index there.0 e there.1)
      ∙ ap (λ b. cond (b && is_id id (roll.marker index)) (Some index) None) (ap (is_life there.0) there.1 ∙ same-life there.0 (living-lives roll.births index there.0 there.1))
      ∙ ap (λ b. cond b (Some index) None) (id-is id (roll.marker index) (id-marks roll id index e))

  -- no two indices have one id
  pub ids-differ : (one other id : ℕ) → id_at roll one ≡ Some id → id_at roll other ≡ Some id → one ≡ other
  ids-differ one other id e f = let both : Some one ≡ Some other = sym (index-of-id id one e) ∙ index-of-id id other f in cc
