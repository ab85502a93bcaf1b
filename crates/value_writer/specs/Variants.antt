-- The variants of a value type: one for each kind of a list, and no two of one name.
use Rattle.std.specs.Prelude.{◌≡◌, ◌≢◌, ℕ, List, ◌++◌, codes}
use Rattle.std.specs.List.{AllPairs, flat_map}
use Rattle.value_writer.specs.declared.kind.Form.{Form}
use Rattle.value_writer.specs.declared.kind.Form.TheVariants.{Stored, Flagged, Simple, Uuid, Own, Library, Over, Markers, Queue, Column, Global}
use Rattle.value_writer.specs.declared.kind.Kind.{Kind}

-- no two kinds have one name
abbrev pub HaveOwnNames : List Kind → Type 0
HaveOwnNames kinds = AllPairs (λ one other. one.name.now ≢ other.name.now) kinds

-- a type over another
abbrev pub over_text : List ℕ → List ℕ → List ℕ
over_text head of = head ++ codes "<" ++ of ++ codes ">"

-- the type of what a storage has at an index, or of a resource
abbrev pub item_text : List ℕ → Form → List ℕ
item_text name (Stored layout) = name
item_text name (Flagged layout) = name
item_text name (Simple of) = over_text (codes "SimpleMarker") of.now
item_text name (Uuid of) = over_text (codes "UuidMarker") of.now
item_text name Own = name
item_text name (Library head) = head.now
item_text name (Over head of) = over_text head.now of.now
item_text name Markers = codes "SceneMarker"
item_text name (Queue of) = over_text (codes "Queue") of.now
item_text name (Column holds) = name
item_text name Global = codes "u64"

-- the type of what values of a kind hold
abbrev pub type_text : List ℕ → Form → List ℕ
type_text name (Stored layout) = over_text (codes "MaskedStorage") name
type_text name (Flagged layout) = over_text (codes "MaskedStorage") name
type_text name (Simple of) = over_text (codes "MaskedStorage") (over_text (codes "SimpleMarker") of.now)
type_text name (Uuid of) = over_text (codes "MaskedStorage") (over_text (codes "UuidMarker") of.now)
type_text name Own = name
type_text name (Library head) = head.now
type_text name (Over head of) = over_text head.now of.now
type_text name Markers = over_text (codes "MaskedStorage") (codes "SceneMarker")
type_text name (Queue of) = over_text (codes "Queue") of.now
type_text name (Column holds) = over_text (codes "MaskedStorage") name
type_text name Global = codes "u64"

-- the line of a kind in the enum
abbrev pub variant_text : Kind → List ℕ
variant_text kind = codes "    " ++ kind.name.now ++ codes "Value(" ++ type_text kind.name.now kind.form ++ codes "),\n"

-- a text has the line of each kind, one behind the other
abbrev pub HasVariants : List Kind → List ℕ → Type 0
HasVariants kinds text = (front : List ℕ) × (rest : List ℕ) × (text ≡ front ++ flat_map variant_text kinds ++ rest)

-- a text has the variants of kinds that have names of their own
abbrev pub HasOwnVariants : List ℕ → Type 0
HasOwnVariants text = (kinds : List Kind) × HaveOwnNames kinds × HasVariants kinds text
