-- Names, references and parts: the data of a scene, as a document says it.
use Rattle.std.specs.Prelude.{ℕ, Bool, false, ◌||◌, List, [], ◌∷◌, Option, Some, None, if◌then◌else◌}
use Rattle.std.specs.List.{position_from, slice_index_or}
use Rattle.std.specs.Str.{bytes_eq}
use Rattle.serde_json.specs.Data.{Data}

-- JSON, as `serde_json` reads it
abbrev pub Json : Type 0
Json = Data

-- the name of a part's kind, of a global or of a system's kind, by its bytes
abbrev pub Name : Type 0
Name = List ℕ

-- a reference is to an entity that lives, by its id, or to none any more
pub data Ref : Type 0 where
  living : ℕ → Ref
  gone : Ref

-- a part: what is written for it, and its references in their order
pub record Part : Type 0 where
  pub json : Json
  pub refs : List Ref

-- whether a name stands in a list of names
abbrev pub is_among : Name → List Name → Bool
is_among name [] = false
is_among name (first ∷ names) = bytes_eq name first || is_among name names

-- the first place of a name in a list of names
abbrev pub place_of : Name → List Name → Option ℕ
place_of name names = position_from (λ other. bytes_eq other name) 0 names

-- the name at a place
abbrev pub name_at : List Name → ℕ → Name
name_at names place = slice_index_or names place []

-- what stands under a name in a list of pairs
abbrev pub under : {X : Type 0} → Name → List (Name × X) → Option X
under name [] = None
under name (first ∷ pairs) = if bytes_eq name first.0 then Some first.1 else under name pairs
