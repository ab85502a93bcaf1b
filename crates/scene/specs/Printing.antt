-- What is printed behind what a writer has.
use Rattle.std.specs.Prelude.{◌≡◌, ◌≤◌, List, [], ◌∷◌, ◌++◌, flat_map, All, Option, Some}
use Rattle.std.specs.List.{cons_option}
use Rattle.json.specs.Token.{Token, key}
use Rattle.json.specs.Tree.{json_tokens}
use Rattle.json.specs.Written.{Written}
use Rattle.serde_json.specs.Data.{depth}
use Rattle.serde_json.specs.Read.{of_json, max_depth}
use Rattle.serde_json.specs.Written.{outline}
use Rattle.scene_model.specs.Parts.{Json, Name}

-- the tokens of a value
abbrev pub tokens_of : Json → List Token
tokens_of json = json_tokens (outline json)

-- the tokens of members, one behind the other
abbrev pub member_tokens : List (Name × Json) → List Token
member_tokens = flat_map (λ pair. key pair.0 ∷ tokens_of pair.1)

-- what is written for a value is read as it, where it nests no deeper than a reader allows
abbrev pub IsReadable : Json → Type 0
IsReadable json = depth json ≤ max_depth → of_json (outline json) ≡ Some json

-- tokens were written behind what was
pub record Adds (added : List Token) (old new : Written) : Type 0 where
  pub tokens : new.tokens ≡ old.tokens ++ added
  pub before : new.before ≡ old.before

-- a value was written behind what was, and can be read
pub record AddsJson (json : Json) (old new : Written) : Type 0 where
  pub adds : Adds (tokens_of json) old new
  pub reads : IsReadable json

-- and so were members, behind these tokens
pub record AddsMembers (front : List Token) (pairs : List (Name × Json)) (old new : Written) : Type 0 where
  pub adds : Adds (front ++ member_tokens pairs) old new
  pub reads : All (λ pair. IsReadable pair.1) pairs

-- and values one behind the other
pub record AddsItems (front : List Token) (items : List Json) (old new : Written) : Type 0 where
  pub adds : Adds (front ++ flat_map tokens_of items) old new
  pub reads : All IsReadable items

-- a member was written behind what was, if there is one
abbrev pub AddsFound : Option (Name × Json) → Written → Written → Type 0
AddsFound found = AddsMembers [] (cons_option found [])
