-- What is read of a document, in plain terms.
use Rattle.std.specs.Prelude.{◌≡◌, ℕ, zero, suc, List, [], slice_get, Option, Some, None, Err}
use Rattle.std.specs.Global.{Vec}
use Rattle.scene_model.specs.declared.command.Command.{Command}
use Rattle.scene_document.specs.declared.loaded.LoadError.{LoadError}
use Rattle.scene_document.specs.declared.loaded.LoadError.TheVariants.{Document, Memory}
use Rattle.scene_model.specs.Parts.{Json, Part}
use Rattle.scene_model.specs.Rulebook.{Book}
use Rattle.scene_model.specs.Rulebook as plain
use Rattle.scene_model.specs.Queues.{plain_commands}
use Rattle.scene_document.specs.Documents.{document_from}

-- the commands of a list that may be missing
abbrev pub commands_found : {D : Type 0} → (D → Part) → Option (Vec (Command D)) → List plain.Command
commands_found part_of None = []
commands_found part_of (Some list) = plain_commands part_of list.items

-- the commands of the code for a frame, by its number from 1, in plain terms
abbrev pub commands_at : {D : Type 0} → (D → Part) → List (Vec (Command D)) → ℕ → List plain.Command
commands_at part_of lists zero = []
commands_at part_of lists (suc place) = commands_found part_of (slice_get lists place)

-- why a value is not read as a document: a refusal stands; want of memory says nothing
abbrev pub IsNotLoaded : Book → ℕ → Json → LoadError → Type 0
IsNotLoaded book indices json (Document refusal) = document_from book indices json ≡ Err refusal
IsNotLoaded book indices json Memory = Unit {0}
