-- What holds of a refused frame, by its cause.
use Rattle.std.specs.Prelude.{ℕ, List}
use Rattle.scene_model.specs.declared.refusals.FrameRefusal.{FrameRefusal}
use Rattle.scene_model.specs.declared.refusals.FrameRefusal.TheVariants.{System, GoneReference, IdsSpent, IndicesSpent, GenerationsSpent, TooManyCommands, Memory, Threads}

-- what each cause says: a system's place and text, the id that holds a reference that is gone, that ids are spent, that a spawn finds
-- no index, or no birth left for its index, that there are too many commands, that a thread is wanting
pub record Causes : Type 1 where
  pub system : ℕ → List ℕ → Type 0
  pub gone : ℕ → Type 0
  pub ids : Type 0
  pub indices : Type 0
  pub generations : Type 0
  pub commands : Type 0
  pub threads : Type 0

-- what the cause says; want of memory says nothing
abbrev pub Says : Causes → FrameRefusal → Type 0
Says causes (System position text) = causes.system position text
Says causes (GoneReference id) = causes.gone id
Says causes IdsSpent = causes.ids
Says causes IndicesSpent = causes.indices
Says causes GenerationsSpent = causes.generations
Says causes TooManyCommands = causes.commands
Says causes Memory = Unit {0}
Says causes Threads = causes.threads
