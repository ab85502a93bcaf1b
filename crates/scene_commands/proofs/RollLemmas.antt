-- Who lives once an entity is known under an id of its own.
use Rattle.std.proofs.Common.{◌≡◌, ℕ, Bool, true, false, cond, eqb, ◌||◌, ◌&&◌, List, [], ◌∷◌, map, Option, Some, None, is_some, refl, ap, sym, ◌∙◌, All}
use Rattle.std.specs.Prelude.{option_and_then, option_map}
use Rattle.std.proofs.lemmas.Bool.{true≢false, eqb-true, eqb-false, ne_eqb, eq-eqb}
use Rattle.std.proofs.lemmas.Option.{none-some}
use Rattle.std.proofs.lemmas.List.Elements.{All-head, All-tail}
use Rattle.std.proofs.lemmas.Map.Views.{All-insert_key}
use Rattle.std.specs.Ordering.{nat_cmp}
use Rattle.specs_entity.specs.Births.{living}
use Rattle.specs_entity.specs.Life.{Life, LifeAt}
use Rattle.specs_markers.specs.Simple.{noted_under}
use Rattle.scene_model.specs.Ids.{ascending}
use Rattle.scene_model.specs.Scenes.{lives}
use Rattle.scene_model.proofs.CallerLemmas.{lives-ascending, in_order-ascends, same-ids}
use Rattle.scene_world.specs.Stored.{Stored, part_with, part_under}
use Rattle.scene_world.specs.Rolls.{Roll, is_life, is_id, reference, id_at, index_if, index_of, ids_in, ref_to, part_in, IsMarked, IsRoll}
use Rattle.scene_world.specs.Changes.{but_at, IsAnother, IsUnnamed}
use Rattle.scene_world.proofs.CallerLemmas.{lives-index, index-of-id, ids-ascend}

-- two numbers are as apart in the other order
pub apart-turned : (a b : ℕ) → eqb a b ≡ false → eqb b a ≡ false
apart-turned a b differ = ne_eqb b a (λ same. eqb-false a b differ (sym same))

-- what holds at a number holds there
pub at-here : {A : Type 0} (index : ℕ) (here : A) (others : ℕ → A) → but_at index here others index ≡ here
at-here index here others = ap (λ b. cond b here (others index)) (eq-eqb index index refl)

-- what holds of each of some numbers holds of them in order
pub all-ascending : (P : ℕ → Type 0) (ids : List ℕ) → All P ids → All P (ascending ids)
all-ascending P [] all = all
all-ascending P (id ∷ ids) all = All-insert_key nat_cmp id P (ascending ids) (all-ascending P ids (All-tail P id ids all)) (All-head P id ids all)

module _ (old new : Roll) (was : IsRoll old) (id : ℕ) (absent : lives id (ids_in old) ≡ false) (entity : LifeAt) (free : living old.births entity.id ≡ None)
    (born : (at : ℕ) → living new.births at ≡ but_at entity.id (Some entity.generation) (living old.births) at)
    (marker : (at : ℕ) → new.marker at ≡ but_at entity.id (Some id) old.marker at)
    (notes : (other : ℕ) → noted_under new.noting other ≡ but_at id (Some entity) (noted_under old.noting) other) where
  -- nobody had the id before
  new-id : (other at : ℕ) → id_at old at ≡ Some other → other ≡ id → ⊥
  new-id other at e same = true≢false (sym (ap (λ one. lives one (ids_in old)) (sym same) ∙ lives-index old other ∙ ap is_some (index-of-id old was other at e)) ∙ absent)

  pub roll-entered : IsRoll new
  roll-entered = record {
    marked = λ at life lives_it. marks at life (eqb at entity.id) refl (sym (born at) ∙ lives_it);
    unmarked = λ at none. unmarks at (eqb at entity.id) refl (sym (born at) ∙ none);
  }
    where
      marks : (at : ℕ) (life : Life) (b : Bool) → eqb at entity.id ≡ b → cond (eqb at entity.id) (Some entity.generation) (living old.births at) ≡ Some life → (given : ℕ) × IsMarked new at life given
      marks at life true same e =
          let is : Some entity.generation ≡ Some life = sym (ap (λ b. cond b (Some entity.generation) (living old.births at)) same) ∙ e in
          let generation : entity.generation ≡ life = cc in (
            id,
            record {
              marker = marker at ∙ ap (λ b. cond b (Some id) (old.marker at)) same;
              noted = notes id ∙ at-here id (Some entity) (noted_under old.noting)
                  ∙ ap (λ i. let x : Option LifeAt = Some (record { id = i; generation = entity.generation }) in x) (sym (eqb-true at entity.id same))
                  ∙ ap (λ g. let x : Option LifeAt = Some (record { id = at; generation = g }) in x) generation;
            },
          )
      marks at life false differ e =
          let lived : living old.births at ≡ Some life = sym (ap (λ b. cond b (Some entity.generation) (living old.births at)) differ) ∙ e in
          let had = was.marked at life lived in
          let other : eqb had.0 id ≡ false = ne_eqb had.0 id (new-id had.0 at (ap (λ l. cond (is_some l) (old.marker at) None) lived ∙ had.1.marker)) in (
            had.0,
            record {
              marker = marker at ∙ ap (λ b. cond b (Some id) (old.marker at)) differ ∙ had.1.marker;
              noted = notes had.0 ∙ ap (λ b. cond b (Some entity) (noted_under old.noting had.0)) other ∙ had.1.noted;
            },
          )

      unmarks : (at : ℕ) (b : Bool) → eqb at entity.id ≡ b → cond (eqb at entity.id) (Some entity.generation) (living old.births at) ≡ None → new.marker at ≡ None
      unmarks at true same e = absurd (none-some entity.generation (sym e ∙ ap (λ b. cond b (Some entity.generation) (living old.births at)) same))
      unmarks at false differ e = marker at ∙ ap (λ b. cond b (Some id) (old.marker at)) differ ∙ was.unmarked at (sym (ap (λ b. cond b (Some entity.generation) (living old.births at)) differ) ∙ e)

  -- the id is that of the new index, and others are those of the indices that they were
  index-here : index_of new id ≡ Some entity.id
  index-here = index-of-id new roll-entered id entity.id
      (ap (λ l. cond (is_some l) (new.marker entity.id) None) (born entity.id ∙ at-here entity.id (Some entity.generation) (living old.births)) ∙ marker entity.id ∙ at-here entity.id (Some id) old.marker)

  index-stays : (other : ℕ) → eqb id other ≡ false → index_of new other ≡ index_of old other
  index-stays other differ = ap (option_and_then (index_if new other)) noted ∙ by (noted_under old.noting other)
    where
      noted : noted_under new.noting other ≡ noted_under old.noting other
      noted = notes other ∙ ap (λ b. cond b (Some entity) (noted_under old.noting other)) (apart-turned id other differ)

      none : (b : Bool) (index : ℕ) → cond (b && false) (Some index) None ≡ None
      none true index = refl
      none false index = refl

      at : (one : LifeAt) (b : Bool) → eqb one.id entity.id ≡ b → index_if new other one ≡ index_if old other one
      at one true here =
          ap (λ m. cond (is_life one.generation (living new.births one.id) && is_id other m) (Some one.id) None) (marker one.id ∙ ap (λ b. cond b (Some id) (old.marker one.id)) here)
          ∙ ap (λ b. cond (is_life one.generation (living new.births one.id) && b) (Some one.id) None) differ
          ∙ none (is_life one.generation (living new.births one.id)) one.id
          ∙ sym (ap (λ l. cond (is_life one.generation l && is_id other (old.marker one.id)) (Some one.id) None) (ap (living old.births) (eqb-true one.id entity.id here) ∙ free))
      at one false away =
          ap (λ l. cond (is_life one.generation l && is_id other (new.marker one.id)) (Some one.id) None) (born one.id ∙ ap (λ b. cond b (Some entity.generation) (living old.births one.id)) away)
          ∙ ap (λ m. cond (is_life one.generation (living old.births one.id) && is_id other m) (Some one.id) None) (marker one.id ∙ ap (λ b. cond b (Some id) (old.marker one.id)) away)

      by : (o : Option LifeAt) → option_and_then (index_if new other) o ≡ option_and_then (index_if old other) o
      by None = refl
      by (Some one) = at one (eqb one.id entity.id) refl

  -- the ids are those from before and the new one, in order
  pub ids-entered : ids_in new ≡ ascending (id ∷ ids_in old)
  ids-entered = same-ids (ids_in new) (ascending (id ∷ ids_in old)) (ids-ascend new) (in_order-ascends (id ∷ ids_in old))
      (λ other. lives-index new other ∙ by other (eqb id other) refl ∙ sym (lives-ascending other (id ∷ ids_in old)))
    where
      by : (other : ℕ) (b : Bool) → eqb id other ≡ b → is_some (index_of new other) ≡ (eqb id other || lives other (ids_in old))
      by other true same = ap (λ i. is_some (index_of new i)) (sym (eqb-true id other same)) ∙ ap is_some index-here ∙ sym (ap (λ b. b || lives other (ids_in old)) same)
      by other false differ = ap is_some (index-stays other differ) ∙ sym (lives-index old other) ∙ sym (ap (λ b. b || lives other (ids_in old)) differ)

  -- another entity is the reference that it was
  ref-stays : (one : LifeAt) → IsAnother entity one → ref_to new one ≡ ref_to old one
  ref-stays one another = by (eqb one.id entity.id) refl another
    where
      by : (b : Bool) → eqb one.id entity.id ≡ b → cond b (is_life one.generation (Some entity.generation)) false ≡ false → ref_to new one ≡ ref_to old one
      by true here isnt =
          ap (λ l. reference (cond (is_life one.generation l) (id_at new one.id) None)) (born one.id ∙ ap (λ b. cond b (Some entity.generation) (living old.births one.id)) here)
          ∙ ap (λ t. reference (cond t (id_at new one.id) None)) isnt
          ∙ sym (ap (λ l. reference (cond (is_life one.generation l) (id_at old one.id) None)) (ap (living old.births) (eqb-true one.id entity.id here) ∙ free))
      by false away isnt =
          ap (λ l. reference (cond (is_life one.generation l) (cond (is_some l) (new.marker one.id) None) None)) (born one.id ∙ ap (λ b. cond b (Some entity.generation) (living old.births one.id)) away)
          ∙ ap (λ m. reference (cond (is_life one.generation (living old.births one.id)) (cond (is_some (living old.births one.id)) m None) None)) (marker one.id ∙ ap (λ b. cond b (Some id) (old.marker one.id)) away)

  refs-stay : (named : List LifeAt) → All (IsAnother entity) named → map (ref_to new) named ≡ map (ref_to old) named
  refs-stay [] all = refl
  refs-stay (one ∷ named) all =
      ap (λ r. r ∷ map (ref_to new) named) (ref-stays one (All-head (IsAnother entity) one named all)) ∙ ap (λ l. ref_to old one ∷ l) (refs-stay named (All-tail (IsAnother entity) one named all))

  -- the parts of a column that stays are those that they were, where none stands at the new index and none names the new entity
  module _ (column now : ℕ → Option Stored) (stays : (at : ℕ) → now at ≡ column at) (bare : column entity.id ≡ None) (unnamed : IsUnnamed entity column) where
    pub part-stays : (other : ℕ) → part_in new now other ≡ part_in old column other
    part-stays other = by (eqb id other) refl
      where
        none : (o : Option ℕ) → index_of old id ≡ o → None ≡ option_and_then (λ index. option_map (part_under (ref_to old)) (column index)) o
        none None e = refl
        none (Some at) e = absurd (true≢false (sym (lives-index old id ∙ ap is_some e) ∙ absent))

        stored : (at : ℕ) (o : Option Stored) → column at ≡ o → option_map (part_under (ref_to new)) o ≡ option_map (part_under (ref_to old)) o
        stored at None e = refl
        stored at (Some one) e = ap (λ refs. Some (part_with one.written refs)) (refs-stay one.named (unnamed at one e))

        found : (o : Option ℕ) → option_and_then (λ index. option_map (part_under (ref_to new)) (now index)) o ≡ option_and_then (λ index. option_map (part_under (ref_to old)) (column index)) o
        found None = refl
        found (Some at) = ap (option_map (part_under (ref_to new))) (stays at) ∙ stored at (column at) refl

        by : (b : Bool) → eqb id other ≡ b → part_in new now other ≡ part_in old column other
        by true same =
            ap (λ i. part_in new now i) (sym (eqb-true id other same))
            ∙ ap (option_and_then (λ index. option_map (part_under (ref_to new)) (now index))) index-here ∙ ap (option_map (part_under (ref_to new))) (stays entity.id ∙ bare)
            ∙ none (index_of old id) refl ∙ ap (part_in old column) (eqb-true id other same)
        by false differ = ap (option_and_then (λ index. option_map (part_under (ref_to new)) (now index))) (index-stays other differ) ∙ found (index_of old other)
