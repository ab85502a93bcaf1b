-- What the readers of a document's tokens ensure; no public clause cites this.
use Rattle.std.specs.Prelude.{◌≡◌, ◌<◌, ◌≤◌, ℕ, List, length, Some}
use Rattle.json.specs.Token.{Token}
use Rattle.json.specs.Json.{value, items, members}
use Rattle.serde_json.specs.Data.{Items, Members, no_members}
use Rattle.serde_json.specs.Read.{of_json, of_items, of_members, converted}
use Rattle.scene_model.specs.Parts.{Json, Name, name_at}

-- tokens begin with this JSON, which nests no deeper than a depth, and these are left
abbrev pub ReadsAs : ℕ → List Token → Json → List Token → Type 0
ReadsAs depth before json after = converted of_json (value depth before) ≡ Some (json, after)

-- tokens begin with these items up to the end of their array
abbrev pub ReadsItems : ℕ → List Token → Items → List Token → Type 0
ReadsItems depth before found after = converted of_items (items (value depth) (length before) before) ≡ Some (found, after)

-- tokens begin with these members up to the end of their object
abbrev pub ReadsMembers : ℕ → List Token → Members → List Token → Type 0
ReadsMembers depth before found after = converted (λ all. of_members all no_members) (members (value depth) (length before) before) ≡ Some (found, after)

-- a name stands among names at a place that is no lower than another
pub record IsKnownFrom (name : Name) (names : List Name) (from place : ℕ) : Type 0 where
  pub no_lower : from ≤ place
  pub within : place < length names
  pub is_name : name_at names place ≡ name
