-- What becomes of a world, step by step, as an entity dies.
use Rattle.std.specs.Prelude.{◌≡◌, ◌≤◌, ℕ, true, false, List, None, IsSome, option_and_then}
use Rattle.specs_entity.specs.Births.{count, living}
use Rattle.specs_markers.specs.Simple.{noted_under}
use Rattle.scene_model.specs.Parts.{Name, is_among}
use Rattle.scene_world.specs.Standing.{Sight, Kinds, roll_of, column_of}
use Rattle.scene_world.specs.Changes.{but_at}
use Rattle.scene_world.specs.Telling.{ShowsKind}
use Rattle.scene_commands.specs.Bounds.{Grows}
use Rattle.scene_commands.specs.Elsewhere.{StaysBut, StaysButParts, SetsMark}

module _ {V : Type 0} (kinds : Kinds V) where
  -- the parts at an index under some kinds are taken out, which the events of each kind show, and all else is as it was
  pub record DropsParts (index : ℕ) (names : List Name) (w later : Sight V) : Type 0 where
    pub gone : (kind : Name) → is_among kind kinds.part_names ≡ true → is_among kind names ≡ true → (at : ℕ) → column_of kinds later kind at ≡ but_at index None (column_of kinds w kind) at
    pub stay : (kind : Name) → is_among kind kinds.part_names ≡ true → is_among kind names ≡ false → (at : ℕ) → column_of kinds later kind at ≡ column_of kinds w kind at
    pub others : StaysButParts kinds w later
    pub shown : (kind : Name) → is_among kind kinds.part_names ≡ true → ShowsKind kinds kind w later

  -- the marker at an index is taken out, and all else is as it was
  abbrev pub Unmarks : ℕ → Sight V → Sight V → Type 0
  Unmarks index = SetsMark kinds index None

  -- what is noted under an id is taken out, and all else is as it was
  pub record Forgets (id : ℕ) (w later : Sight V) : Type 0 where
    pub next : (roll_of kinds later).noting.next ≡ (roll_of kinds w).noting.next
    pub noted : (other : ℕ) → noted_under (roll_of kinds later).noting other ≡ but_at id None (noted_under (roll_of kinds w).noting) other
    pub there : IsSome (option_and_then kinds.noting (later kinds.allocator_id))
    pub others : StaysBut kinds.allocator_id w later

  -- the entity at an index dies, no birth is lost, and all else is as it was
  pub record LetsDie (index : ℕ) (w later : Sight V) : Type 0 where
    pub lives : (at : ℕ) → living (roll_of kinds later).births at ≡ but_at index None (living (roll_of kinds w).births) at
    pub births : (at : ℕ) → count (roll_of kinds w).births at ≤ count (roll_of kinds later).births at
    pub there : IsSome (option_and_then kinds.births (later kinds.entities_id))
    pub others : StaysBut kinds.entities_id w later
    pub grows : Grows (roll_of kinds w).births (roll_of kinds later).births 0 0
