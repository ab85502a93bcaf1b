-- What becomes of a world as an entity is noted under an id of its own.
use Rattle.std.specs.Prelude.{ℕ, Some}
use Rattle.specs_entity.specs.Life.{LifeAt}
use Rattle.scene_world.specs.Standing.{Sight, Kinds}
use Rattle.scene_commands.specs.Elsewhere.{Notes}

-- an entity is noted under an id that is asked for, and all else is as it was
abbrev pub NotesUnder : {V : Type 0} → Kinds V → LifeAt → ℕ → Sight V → Sight V → Type 0
NotesUnder kinds entity id = Notes kinds entity (Some id) id
