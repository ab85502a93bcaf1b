-- Paths in a JSON, and what stands at their ends.
use Rattle.std.specs.Prelude.{ℕ, List, [], ◌∷◌, map, string_bytes, Option, Some, option_and_then, IsSome}
use Rattle.serde_json.specs.Find.{get, at}
use Rattle.scene_model.specs.Parts.{Json, Name}
use Rattle.scene_sight.specs.declared.paths.Step as code
use Rattle.scene_sight.specs.declared.paths.Step.TheVariants.{Key, Item}

-- a step into a JSON: to what stands under a key, or at a place of a list, from 0
pub data Step : Type 0 where
  under : Name → Step
  place : ℕ → Step

-- what stands behind a step
abbrev pub behind : Step → Json → Option Json
behind (under key) json = get key json
behind (place index) json = at index json

-- what stands at the end of a path
abbrev pub found : List Step → Json → Option Json
found [] json = Some json
found (step ∷ path) json = option_and_then (found path) (behind step json)

-- a step of the code in plain terms
abbrev pub plain_step : code.Step → Step
plain_step (Key key) = under (string_bytes key)
plain_step (Item index) = place index

-- a path of the code leads to something in a JSON
abbrev pub Stands : Json → List code.Step → Type 0
Stands json path = IsSome (found (map plain_step path) json)
