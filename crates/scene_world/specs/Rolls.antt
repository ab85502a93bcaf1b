-- Who lives in a world, and under which id each is known.
use Rattle.std.specs.Prelude.{◌≡◌, ℕ, ◌==◌, ◌&&◌, Bool, false, List, filter, Option, Some, None, is_some, if◌then◌else◌, option_and_then, option_map}
use Rattle.std.specs.FinMap as map
use Rattle.specs_entity.specs.Births.{Births, living}
use Rattle.specs_entity.specs.Life.{Life, LifeAt}
use Rattle.specs_markers.specs.Simple.{Noting, noted_under}
use Rattle.scene_model.specs.Parts.{Ref, living as reaching, gone, Part}
use Rattle.scene_model.specs.Ids.{ascending}
use Rattle.scene_world.specs.Stored.{Stored, part_under}

-- the entities of a world, the id that is marked at each index, and the allocator of ids: which comes next, and the entity that was
-- last noted under each
pub record Roll : Type 0 where
  pub births : Births
  pub marker : ℕ → Option ℕ
  pub noting : Noting

-- whether what may live is of that life
abbrev pub is_life : Life → Option Life → Bool
is_life life None = false
is_life life (Some other) = life.lives && other.number == life.number

-- whether what may be an id is that one
abbrev pub is_id : ℕ → Option ℕ → Bool
is_id id None = false
is_id id (Some other) = other == id

-- the reference to an id that may be missing
abbrev pub reference : Option ℕ → Ref
reference None = gone
reference (Some id) = reaching id

module _ (roll : Roll) where
  -- the index of an entity, where it is alive and marked with the id
  abbrev pub index_if : ℕ → LifeAt → Option ℕ
  index_if id entity = if is_life entity.generation (living roll.births entity.id) && is_id id (roll.marker entity.id) then Some entity.id else None

  -- the index of the entity that is known under an id
  abbrev pub index_of : ℕ → Option ℕ
  index_of id = option_and_then (index_if id) (noted_under roll.noting id)

  -- the ids of those that live
  abbrev pub ids_in : List ℕ
  ids_in = ascending (filter (λ id. is_some (index_of id)) (map.keys roll.noting.noted))

  -- the id of the entity that lives at an index
  abbrev pub id_at : ℕ → Option ℕ
  id_at index = if is_some (living roll.births index) then roll.marker index else None

  -- the reference that a stored entity is: to its id while it lives, and to none any more from then on
  abbrev pub ref_to : LifeAt → Ref
  ref_to entity = reference (if is_life entity.generation (living roll.births entity.id) then id_at entity.id else None)

  -- the part of an id, by what a column stores at each index
  abbrev pub part_in : (ℕ → Option Stored) → ℕ → Option Part
  part_in column id = option_and_then (λ index. option_map (part_under ref_to) (column index)) (index_of id)

-- an index is marked with an id, under which the entity of that life is noted
pub record IsMarked (roll : Roll) (index : ℕ) (life : Life) (id : ℕ) : Type 0 where
  pub marker : roll.marker index ≡ Some id
  pub noted : noted_under roll.noting id ≡ Some (record { id = index; generation = life })

-- each living entity is marked with an id, under which it is noted, and no other index is marked: so no two bear one id
pub record IsRoll (roll : Roll) : Type 0 where
  pub marked : (index : ℕ) (life : Life) → living roll.births index ≡ Some life → (id : ℕ) × IsMarked roll index life id
  pub unmarked : (index : ℕ) → living roll.births index ≡ None → roll.marker index ≡ None
