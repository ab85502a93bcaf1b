-- Who is known by an id in what is held, by where a scene's entities, their markers and the allocator of ids stand.
use Rattle.std.specs.Prelude.{ℕ, List, Option, Some, None, option_and_then, if◌then◌else◌}
use Rattle.std.specs.List.{filter_map}
use Rattle.std.specs.Option.{unwrap_or}
use Rattle.shred_world.specs.Bundles.{Holding}
use Rattle.specs_entity.specs.Births.{none_born}
use Rattle.specs_markers.specs.Simple.{none_noted}
use Rattle.scene_model.specs.Ids.{ascending}
use Rattle.scene_world.specs.Places.{Places}
use Rattle.scene_world.specs.Rolls.{Roll, is_id, index_of}
use Rattle.scene_world.specs.Standing.{seen_in}

-- who lives in what is held, and under which id each is known
abbrev pub roll_held : {V D : Type 0} → Places V D → Holding V → Roll
roll_held places w = record {
  births = unwrap_or (option_and_then places.births (seen_in w places.entities_id)) (none_born 0 0);
  marker = λ index. option_and_then (λ v. places.marker v index) (seen_in w places.markers_id);
  noting = unwrap_or (option_and_then places.noting (seen_in w places.allocator_id)) none_noted;
}

-- the id under which the entity at an index is known, if it is known under one
abbrev pub known_at : Roll → ℕ → Option ℕ
known_at roll index = option_and_then (λ id. if is_id index (index_of roll id) then Some id else None) (roll.marker index)

-- the ids under which those at some indices are known, each once, in their order
abbrev pub ids_known_at : Roll → List ℕ → List ℕ
ids_known_at roll indices = ascending (filter_map (known_at roll) indices)
