-- How lists of commands are run one after another, whatever comes after them.
use Rattle.std.specs.Prelude.{◌≡◌, ℕ, ◌+◌, List, [], ◌∷◌, ◌++◌, length}
use Rattle.scene_model.specs.Parts.{Name}
use Rattle.scene_model.specs.Rulebook.{Command}
use Rattle.scene_model.specs.Scenes.{PlainScene}
use Rattle.scene_model.specs.Causes.{Says}
use Rattle.scene_model.specs.Commands.{Played, spent, behind, play, skips_of}
use Rattle.scene_model.specs.declared.refusals.Skip.{Skip}
use Rattle.scene_model.specs.declared.refusals.FrameRefusal.{FrameRefusal}

-- the places skipped later, behind those that were skipped before
abbrev pub behind_all : List ℕ → Played → Played
behind_all [] rest = rest
behind_all (place ∷ places) rest = behind place (behind_all places rest)

-- commands of which the first has a place lead from a scene to another, and skip these places, whatever comes after them
abbrev pub CommandsLead : List Name → ℕ → List Command → PlainScene → PlainScene → List ℕ → Type 0
CommandsLead owning place commands scene after places = (later : List Command) → play owning place (commands ++ later) scene ≡ behind_all places (play owning (place + length commands) later after)

-- among commands of which the first has a place is a spawn that finds no id
abbrev pub FindsNoId : List Name → ℕ → List Command → PlainScene → Type 0
FindsNoId owning place commands scene = (later : List Command) → play owning place (commands ++ later) scene ≡ spent

-- commands are refused for this cause: a spawn finds no id; want of memory says nothing, and there is no other cause
abbrev pub RunRefused : List Name → ℕ → List Command → PlainScene → FrameRefusal → Type 0
RunRefused owning place commands scene cause = Says (record { system = λ position text. ⊥; gone = λ id. ⊥; ids = FindsNoId owning place commands scene; indices = ⊥; generations = ⊥; commands = ⊥; threads = ⊥ }) cause

-- commands of which the first has a place lead from a scene to another, and their skips are put behind those before
abbrev pub RunsTo : List Name → ℕ → ℕ → List Command → PlainScene → PlainScene → List Skip → List Skip → Type 0
RunsTo owning frame place commands scene after old new = (places : List ℕ) × CommandsLead owning place commands scene after places × (new ≡ old ++ skips_of frame places)
