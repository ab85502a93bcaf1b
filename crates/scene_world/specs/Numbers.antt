-- Parts that are a number, or a reference to an entity: what is written, read and stored for them.
use Rattle.std.specs.Prelude.{◌≡◌, ◌+◌, ◌==◌, ℕ, Bool, true, false, List, [], ◌∷◌, Option, Some, None, option_and_then, if◌then◌else◌}
use Rattle.std.specs.List.{slice_index_or}
use Rattle.serde_json.specs.Data.{unsigned, number}
use Rattle.serde_json.specs.Find.{as_number, as_u64}
use Rattle.specs_entity.specs.Life.{LifeAt}
use Rattle.scene_model.specs.Parts.{Json, Name, Ref, living, gone, Part}
use Rattle.scene_model.specs.Rulebook.{Fragment}
use Rattle.scene_world.specs.Stored.{Stored}

-- what is written for a number, and the number that a JSON is
abbrev pub counted : ℕ → Json
counted n = number (unsigned n)

abbrev pub number_in : Json → Option ℕ
number_in json = option_and_then as_u64 (as_number json)

-- a number as a part, a reference, and what a number is under a kind that refers or doesn't
abbrev pub counting : ℕ → Part
counting n = record { json = counted n; refs = [] }

abbrev pub referring : ℕ → Part
referring id = record { json = counted id; refs = living id ∷ [] }

abbrev pub part_for : Bool → ℕ → Part
part_for refers n = if refers then referring n else counting n

-- whether references are one, to the id that was written, and whether there are none to a number
abbrev pub refers_once : Option ℕ → List Ref → Bool
refers_once None refs = false
refers_once (Some n) [] = false
refers_once (Some n) (gone ∷ refs) = false
refers_once (Some n) (living id ∷ []) = id == n
refers_once (Some n) (living id ∷ other ∷ refs) = false

abbrev pub refers_never : Option ℕ → List Ref → Bool
refers_never None refs = false
refers_never (Some n) [] = true
refers_never (Some n) (ref ∷ refs) = false

-- whether a part may stand under a kind: one reference where it refers, else a number
abbrev pub admits_number : Bool → Part → Bool
admits_number refers part = if refers then refers_once (number_in part.json) part.refs else refers_never (number_in part.json) part.refs

-- the number of an id under a kind, and the id to which it refers, by the first reference
abbrev pub number_of : Fragment → Name → ℕ → Option ℕ
number_of seen kind id = option_and_then (λ part. number_in part.json) (seen.part id kind)

abbrev pub id_named : List Ref → Option ℕ
id_named [] = None
id_named (gone ∷ refs) = None
id_named (living id ∷ refs) = Some id

abbrev pub reference_of : Fragment → Name → ℕ → Option ℕ
reference_of seen kind id = option_and_then (λ part. id_named part.refs) (seen.part id kind)

-- what is stored for a number, and for a reference to an entity, whose id is written for it
abbrev pub number_stored : ℕ → Stored
number_stored n = record { named = []; written = λ ids. counted n }

abbrev pub reference_stored : LifeAt → Stored
reference_stored entity = record { named = entity ∷ []; written = λ ids. counted (slice_index_or ids 0 0) }

-- the number at an index of a column, and the entity to which the part there refers, the first of them
abbrev pub number_at : (ℕ → Option Stored) → ℕ → Option ℕ
number_at column index = option_and_then (λ stored. number_in (stored.written [])) (column index)

abbrev pub first_named : List LifeAt → Option LifeAt
first_named [] = None
first_named (entity ∷ entities) = Some entity

abbrev pub entity_at : (ℕ → Option Stored) → ℕ → Option LifeAt
entity_at column index = option_and_then (λ stored. first_named stored.named) (column index)

-- all that a column stores are numbers, or references
abbrev pub AreNumbers : (ℕ → Option Stored) → Type 0
AreNumbers column = (index : ℕ) (stored : Stored) → column index ≡ Some stored → (n : ℕ) × (number_stored n ≡ stored)

abbrev pub AreReferences : (ℕ → Option Stored) → Type 0
AreReferences column = (index : ℕ) (stored : Stored) → column index ≡ Some stored → (entity : LifeAt) × (reference_stored entity ≡ stored)

-- how much amounts take in all where they are taken, each at an index or from an id
abbrev pub taken_at : ℕ → List (ℕ × ℕ) → ℕ
taken_at at [] = 0
taken_at at (amount ∷ amounts) = (if at == amount.0 then amount.1 else 0) + taken_at at amounts
