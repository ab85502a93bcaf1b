-- What becomes of a world, step by step, as an entity is born.
use Rattle.std.specs.Prelude.{◌≡◌, ◌<◌, ◌≤◌, ◌==◌, ℕ, true, false, List, Option, Some, None, IsSome, option_and_then}
use Rattle.shred_world.specs.Worlds.{Slots}
use Rattle.specs_entity.specs.Births.{Births, count, living, IsBorn, IndicesAreSpent, GenerationsAreSpent}
use Rattle.specs_entity.specs.Life.{LifeAt}
use Rattle.scene_model.specs.declared.refusals.FrameRefusal.{FrameRefusal}
use Rattle.scene_model.specs.declared.refusals.FrameRefusal.TheVariants.{System, GoneReference, IdsSpent, IndicesSpent, GenerationsSpent, TooManyCommands, Memory, Threads}
use Rattle.scene_model.specs.Parts.{Name, Part, is_among, under}
use Rattle.scene_model.specs.Rulebook.{spawn}
use Rattle.scene_model.specs.Scenes.{PlainScene}
use Rattle.scene_model.specs.Commands.{apply, changed, ids_spent}
use Rattle.scene_model.specs.Laws.{refs_to}
use Rattle.scene_world.specs.Stored.{Stored}
use Rattle.scene_world.specs.Rolls.{Roll}
use Rattle.scene_world.specs.Standing.{Sight, Kinds, roll_of, column_of, owning_in, plain_of}
use Rattle.scene_world.specs.Changes.{but_at}
use Rattle.scene_world.specs.Putting.{StoresAs}
use Rattle.scene_world.specs.Telling.{ShowsKind}
use Rattle.scene_commands.specs.Bounds.{Grows}
use Rattle.scene_commands.specs.Acts.{seen_of, AreUnder, PutsPart}
use Rattle.scene_commands.specs.Elsewhere.{StaysBut, StaysButParts, SetsMark, Notes}

-- a spawn is to be done: an id is left for it, and its references live
pub record IsToBeDone {V : Type 0} (kinds : Kinds V) (parts : List (Name × Part)) (w : Slots V) : Type 0 where
  pub after : PlainScene
  pub is : apply (owning_in kinds) (spawn parts) (plain_of kinds (seen_of w)) ≡ changed after

-- why a spawn is refused: no id is left, and then the definition says so too; it is to be done, but no index is left, or the index that comes next has had its births; want of memory says nothing
abbrev pub RefusesSpawn : {V : Type 0} → Kinds V → List (Name × Part) → Slots V → FrameRefusal → Type 0
RefusesSpawn kinds parts w (System position text) = ⊥
RefusesSpawn kinds parts w (GoneReference id) = ⊥
RefusesSpawn kinds parts w IdsSpent = apply (owning_in kinds) (spawn parts) (plain_of kinds (seen_of w)) ≡ ids_spent
RefusesSpawn kinds parts w IndicesSpent = IndicesAreSpent (roll_of kinds (seen_of w)).births × IsToBeDone kinds parts w
RefusesSpawn kinds parts w GenerationsSpent = GenerationsAreSpent (roll_of kinds (seen_of w)).births × IsToBeDone kinds parts w
RefusesSpawn kinds parts w TooManyCommands = ⊥
RefusesSpawn kinds parts w Memory = Unit {0}
RefusesSpawn kinds parts w Threads = ⊥

-- a part is stored, and its references are to entities that are known under their ids
pub record IsGiven (roll : Roll) (part : Part) (held : Option Stored) : Type 0 where
  pub ids : List ℕ
  pub named : List LifeAt
  pub one : Stored
  pub there : held ≡ Some one
  pub refs : refs_to ids ≡ part.refs
  pub found : AreUnder roll ids (Some named)
  pub is : StoresAs part named one

-- why an entity doesn't come to life: no index is left, or an index has had its births; want of memory says nothing
abbrev pub RefusesLife : Births → FrameRefusal → Type 0
RefusesLife births (System position text) = ⊥
RefusesLife births (GoneReference id) = ⊥
RefusesLife births IdsSpent = ⊥
RefusesLife births IndicesSpent = IndicesAreSpent births
RefusesLife births GenerationsSpent = GenerationsAreSpent births
RefusesLife births TooManyCommands = ⊥
RefusesLife births Memory = Unit {0}
RefusesLife births Threads = ⊥

module _ {V : Type 0} (kinds : Kinds V) where
  -- an entity that was not born before comes to life, no birth is lost, and all else is as it was
  pub record ComesToLife (entity : LifeAt) (w later : Sight V) : Type 0 where
    pub unborn : ¬ (IsBorn (roll_of kinds w).births entity)
    pub counts : 0 < entity.generation.number
    pub alive : living (roll_of kinds later).births entity.id ≡ Some entity.generation
    pub lives : (at : ℕ) → living (roll_of kinds later).births at ≡ but_at entity.id (Some entity.generation) (living (roll_of kinds w).births) at
    pub live_on : (one : LifeAt) → living (roll_of kinds w).births one.id ≡ Some one.generation → living (roll_of kinds later).births one.id ≡ Some one.generation
    pub births : (at : ℕ) → count (roll_of kinds w).births at ≤ count (roll_of kinds later).births at
    pub there : IsSome (option_and_then kinds.births (later kinds.entities_id))
    pub others : StaysBut kinds.entities_id w later
    pub grows : Grows (roll_of kinds w).births (roll_of kinds later).births 0 1

  -- an entity is noted under the id that comes next, and all else is as it was
  abbrev pub GetsId : LifeAt → ℕ → Sight V → Sight V → Type 0
  GetsId entity given = Notes kinds entity None given

  -- an index is marked with an id, and all else is as it was
  abbrev pub Marks : ℕ → ℕ → Sight V → Sight V → Type 0
  Marks index given = SetsMark kinds index (Some given)

  -- a part is stored at an index, and its references are to entities that are known in the world
  pub record GivesPart (kind : Name) (index : ℕ) (part : Part) (w later : Sight V) : Type 0 where
    pub ids : List ℕ
    pub named : List LifeAt
    pub refs : refs_to ids ≡ part.refs
    pub found : AreUnder (roll_of kinds w) ids (Some named)
    pub puts : PutsPart kinds kind index part named w later

  -- parts are stored at an index, each under its kind; under other kinds of the rules is what was stored there, and all else is as it was;
  -- the events of each kind show it
  pub record GivesParts (roll : Roll) (index : ℕ) (given : List (Name × Part)) (w later : Sight V) : Type 0 where
    pub here : (kind : Name) → is_among kind kinds.part_names ≡ true → (part : Part) → under kind given ≡ Some part → IsGiven roll part (column_of kinds later kind index)
    pub none : (kind : Name) → is_among kind kinds.part_names ≡ true → under kind given ≡ None → column_of kinds later kind index ≡ column_of kinds w kind index
    pub elsewhere : (kind : Name) → is_among kind kinds.part_names ≡ true → (at : ℕ) → (at == index) ≡ false → column_of kinds later kind at ≡ column_of kinds w kind at
    pub others : StaysButParts kinds w later
    pub shown : (kind : Name) → is_among kind kinds.part_names ≡ true → ShowsKind kinds kind w later

  -- an entity that came to life gets its id, is marked with it, and is given its parts
  pub record Settles (entity : LifeAt) (given : List (Name × Part)) (w later : Sight V) : Type 0 where
    pub id : ℕ
    pub noted : Sight V
    pub marked : Sight V
    pub gets : GetsId entity id w noted
    pub marks : Marks entity.id id noted marked
    pub gives : GivesParts (roll_of kinds marked) entity.id given marked later
