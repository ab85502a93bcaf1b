-- Entities of a world by the ids of its scene.
use Rattle.std.proofs.Common.{◌≡◌, ℕ, Bool, true, false, cond, ◌&&◌, List, [], ◌∷◌, map, Vec, Option, Some, None, is_some, refl, ap, sym, ◌∙◌, subst}
use Rattle.std.specs.Prelude.{option_and_then, option_map}
use Rattle.std.specs.List.{list_all, list_any}
use Rattle.std.proofs.lemmas.Bool.{false≢true, and_parts}
use Rattle.std.specs.FinMap as slots
use Rattle.std.specs.Option.{option_flatten, option_copied, unwrap_or}
use denote.Ref.{Bor}
use Rattle.std.specs.FinSet as set
use Rattle.std.specs.Ordering.{nat_cmp}
use Rattle.serde_json.specs.Data.{null}
use Rattle.shred_world.specs.declared.resource_id.ResourceId.{ResourceId}
use Rattle.shred_world.specs.Worlds.{Slots, value_at}
use Rattle.shred_world.specs.Bundles.{readable, slot_of}
use Rattle.specs_entity.specs.Births.{Births, living, living_of, none_born}
use Rattle.specs_entity.specs.Life.{Life, LifeAt}
use Rattle.specs_markers.specs.Simple.{Noting, noted_under, none_noted}
use Rattle.scene_model.specs.Parts.{living as reaching, Part}
use Rattle.scene_model.specs.Scenes.{lives}
use Rattle.scene_model.specs.Commands.{ref_lives, refs_live, is_gone}
use Rattle.scene_model.specs.Laws.{refs_to}
use Rattle.scene_world.specs.Stored.{Stored, ids_reached, part_with, part_under}
use Rattle.scene_world.specs.Rolls.{Roll, is_life, is_id, reference, id_at, index_of, index_if, ids_in, ref_to}
use Rattle.scene_world.proofs.CallerLemmas.{is-id, life-there, lives-index}
use Rattle.scene_world.specs.Putting.{StoresAs}
use Rattle.scene_commands.specs.Acts.{seen_of, entity_under, AreUnder}

-- what can be read of a world is what it holds
pub seen-value : {V : Type 0} (w : Slots V) (id : ResourceId) → seen_of w id ≡ value_at w id
seen-value {V} w id = by (slots.get w id)
  where
    by : (slot : Option (Option V)) → readable (slot_of slot) ≡ option_flatten slot
    by None = refl
    by (Some None) = refl
    by (Some (Some v)) = refl

-- what was lent of a world for reading is what can be read there
module _ {V : Type 0} (w : Slots V) (id asked : ResourceId) (at_id : asked ≡ id) (lent : Option (Bor V)) (copied : option_copied lent ≡ value_at w asked) where
  pub lent-none : lent ≡ None → seen_of w id ≡ None
  lent-none is = seen-value w id ∙ ap (value_at w) (sym at_id) ∙ sym copied ∙ ap option_copied is

  pub lent-some : (value : Bor V) → lent ≡ Some value → seen_of w id ≡ Some value.now
  lent-some value is = seen-value w id ∙ ap (value_at w) (sym at_id) ∙ sym copied ∙ ap option_copied is

module _ (roll : Roll) where
  -- what an entity that is known under an id is
  pub record IsUnder (id : ℕ) (entity : LifeAt) : Type 0 where
    pub noted : noted_under roll.noting id ≡ Some entity
    pub alive : is_life entity.generation (living roll.births entity.id) ≡ true
    pub marked : roll.marker entity.id ≡ Some id

  -- the index of an id is that of the entity under it
  pub index-under : (id : ℕ) → index_of roll id ≡ option_map (λ entity. entity.id) (entity_under roll id)
  index-under id = by (noted_under roll.noting id)
    where
      tested : (b : Bool) (entity : LifeAt) → cond b (Some entity.id) None ≡ option_map (λ one. one.id) (cond b (Some entity) None)
      tested true entity = refl
      tested false entity = refl

      by : (o : Option LifeAt) → option_and_then (index_if roll id) o
          ≡ option_map (λ entity. entity.id) (option_and_then (λ entity. cond (is_life entity.generation (living roll.births entity.id) && is_id id (roll.marker entity.id)) (Some entity) None) o)
      by None = refl
      by (Some entity) = tested (is_life entity.generation (living roll.births entity.id) && is_id id (roll.marker entity.id)) entity

  -- an id lives where there is an entity under it
  pub lives-under : (id : ℕ) → lives id (ids_in roll) ≡ is_some (entity_under roll id)
  lives-under id = lives-index roll id ∙ ap is_some (index-under id) ∙ mapped (entity_under roll id)
    where
      mapped : (o : Option LifeAt) → is_some (option_map (λ entity. entity.id) o) ≡ is_some o
      mapped None = refl
      mapped (Some entity) = refl

  -- what is under an id is so by its notes, its life and its marker
  pub under-is : (id : ℕ) (entity : LifeAt) → entity_under roll id ≡ Some entity → IsUnder id entity
  under-is id entity e = by (noted_under roll.noting id) refl e
    where
      at : (one : LifeAt) → noted_under roll.noting id ≡ Some one → (b : Bool) → (is_life one.generation (living roll.births one.id) && is_id id (roll.marker one.id)) ≡ b
          → cond b (Some one) None ≡ Some entity → IsUnder id entity
      at one noted true is f =
          let same : one ≡ entity = cc in
          let both = and_parts (is_life one.generation (living roll.births one.id)) (is_id id (roll.marker one.id)) is in
          subst (λ x. IsUnder id x) same (record { noted = noted; alive = both.0; marked = is-id id (roll.marker one.id) both.1 })
      at one noted false is f = cc

      by : (o : Option LifeAt) → noted_under roll.noting id ≡ o
          → option_and_then (λ one. cond (is_life one.generation (living roll.births one.id) && is_id id (roll.marker one.id)) (Some one) None) o ≡ Some entity → IsUnder id entity
      by None noted f = cc
      by (Some one) noted f = at one noted _ refl f

  -- such an entity is at the index of the id, and a reference to it
  pub under-at : (id : ℕ) (entity : LifeAt) → entity_under roll id ≡ Some entity → id_at roll entity.id ≡ Some id
  under-at id entity e =
      let is = under-is id entity e in
      ap (λ b. cond b (roll.marker entity.id) None) (life-there entity.generation (living roll.births entity.id) is.alive) ∙ is.marked

  pub under-reaches : (id : ℕ) (entity : LifeAt) → entity_under roll id ≡ Some entity → ref_to roll entity ≡ reaching id
  under-reaches id entity e =
      let is = under-is id entity e in
      ap (λ b. reference (cond b (id_at roll entity.id) None)) is.alive ∙ ap reference (under-at id entity e)

  -- entities that are under ids are the references to these
  pub all-reach : (ids : List ℕ) (named : List LifeAt) → map (entity_under roll) ids ≡ map (λ entity. Some entity) named → map (ref_to roll) named ≡ refs_to ids
  all-reach [] [] e = refl
  all-reach [] (entity ∷ named) e = cc
  all-reach (id ∷ ids) [] e = cc
  all-reach (id ∷ ids) (entity ∷ named) e =
      let first : entity_under roll id ≡ Some entity = cc in
      let rest : map (entity_under roll) ids ≡ map (λ one. Some one) named = cc in
      ap (λ r. r ∷ map (ref_to roll) named) (under-reaches id entity first) ∙ ap (λ l. reaching id ∷ l) (all-reach ids named rest)

  -- and the ids live
  pub all-live : (ids : List ℕ) (named : List LifeAt) → map (entity_under roll) ids ≡ map (λ entity. Some entity) named → list_all (ref_lives (ids_in roll)) (refs_to ids) ≡ true
  all-live [] [] e = refl
  all-live [] (entity ∷ named) e = cc
  all-live (id ∷ ids) [] e = cc
  all-live (id ∷ ids) (entity ∷ named) e =
      let first : entity_under roll id ≡ Some entity = cc in
      let rest : map (entity_under roll) ids ≡ map (λ one. Some one) named = cc in
      ap (λ b. b && list_all (ref_lives (ids_in roll)) (refs_to ids)) (lives-under id ∙ ap is_some first) ∙ all-live ids named rest

  -- where under one of them nobody is, not all live
  pub one-lacks : (ids : List ℕ) → list_all (λ id. is_some (entity_under roll id)) ids ≡ list_all (ref_lives (ids_in roll)) (refs_to ids)
  one-lacks [] = refl
  one-lacks (id ∷ ids) = ap (λ b. b && list_all (λ one. is_some (entity_under roll one)) ids) (sym (lives-under id)) ∙ ap (λ b. lives id (ids_in roll) && b) (one-lacks ids)

-- who is known under an id in one roll is so in another that has somebody there and the same note
pub same-noted : (old new : Roll) (id : ℕ) (one : LifeAt) → entity_under new id ≡ Some one → is_some (entity_under old id) ≡ true → noted_under new.noting id ≡ noted_under old.noting id → entity_under old id ≡ Some one
same-noted old new id one now there noted = ap tested note ∙ by (is_life one.generation (living old.births one.id) && is_id id (old.marker one.id)) (sym (ap (λ o. is_some (tested o)) note) ∙ there)
  where
    tested : Option LifeAt → Option LifeAt
    tested o = option_and_then (λ entity. cond (is_life entity.generation (living old.births entity.id) && is_id id (old.marker entity.id)) (Some entity) None) o

    note : noted_under old.noting id ≡ Some one
    note = sym noted ∙ (under-is new id one now).noted

    by : (b : Bool) → is_some (cond b (Some one) None) ≡ true → cond b (Some one) None ≡ Some one
    by true e = refl
    by false e = absurd (false≢true e)

-- what was found under the ids of a part's references tells whether these live
pub found-live : {E : Type 0} (roll : Roll) (ids : List ℕ) (found : Option (Vec LifeAt E)) (part : Part) → refs_to ids ≡ part.refs → AreUnder roll ids (option_map (λ entities. entities.items) found)
    → is_some found ≡ refs_live (ids_in roll) part
found-live roll ids None part refs none = sym none ∙ one-lacks roll ids ∙ ap (list_all (ref_lives (ids_in roll))) refs
found-live roll ids (Some named) part refs all = sym (all-live roll ids named.items all) ∙ ap (list_all (ref_lives (ids_in roll))) refs

-- references to living ids are none that is gone, and reach these ids
none-gone : (ids : List ℕ) → list_any is_gone (refs_to ids) ≡ false
none-gone [] = refl
none-gone (id ∷ ids) = none-gone ids

-- what is stored as a part is that part, where its references are to the entities under their ids
pub stored-part : (roll : Roll) (part : Part) (ids : List ℕ) (named : List LifeAt) (one : Stored) → refs_to ids ≡ part.refs
    → map (entity_under roll) ids ≡ map (λ entity. Some entity) named → StoresAs part named one → part_under (ref_to roll) one ≡ part
stored-part roll part ids named one refs under is =
    ap (λ l. part_with one.written (map (ref_to roll) l)) is.names
    ∙ ap (part_with one.written) (all-reach roll ids named under)
    ∙ ap (λ b. let made : Part = record { json = cond b null (one.written (ids_reached (refs_to ids))); refs = refs_to ids } in made) (none-gone ids)
    ∙ ap (λ r. let made : Part = record { json = one.written (ids_reached r); refs = r } in made) refs
    ∙ ap (λ j. let made : Part = record { json = j; refs = part.refs } in made) is.writes
