-- Parts as a world stores them: with entities in the place of ids.
use Rattle.std.specs.Prelude.{ℕ, List, map, Option, Some, None, if◌then◌else◌}
use Rattle.std.specs.List.{list_any, filter_map}
use Rattle.serde_json.specs.Data.{null}
use Rattle.specs_entity.specs.Life.{LifeAt}
use Rattle.scene_model.specs.Parts.{Json, Ref, living, gone, Part}
use Rattle.scene_model.specs.Commands.{is_gone}

-- the entities that a part names, in their order, and what is written for it once these are ids
pub record Stored : Type 0 where
  pub named : List LifeAt
  pub written : List ℕ → Json

-- the id that a reference is to
abbrev pub id_reached : Ref → Option ℕ
id_reached (living id) = Some id
id_reached gone = None

-- the ids that references are to
abbrev pub ids_reached : List Ref → List ℕ
ids_reached refs = filter_map id_reached refs

-- a part with these references: nothing is written for one that refers to an entity that is no more
abbrev pub part_with : (List ℕ → Json) → List Ref → Part
part_with written refs = record { json = if list_any is_gone refs then null else written (ids_reached refs); refs = refs }

-- the part that is stored, where each entity is this reference
abbrev pub part_under : (LifeAt → Ref) → Stored → Part
part_under ref stored = part_with stored.written (map ref stored.named)
