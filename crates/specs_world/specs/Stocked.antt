-- Worlds of known parts in which no job waits, and what is built, deleted and maintained in them, told for one kind of parts at a time.
use Rattle.std.specs.Prelude.{◌≡◌, ◌==◌, ◌+◌, nat_lt, nat_le, ℕ, Bool, true, not, ◌&&◌, List, [], ◌∷◌, ◌++◌, Option, None, Some, if◌then◌else◌}
use Rattle.std.specs.List.{list_any}
use Rattle.std.specs.Borrow.{Bor}
use Rattle.std.specs.FinMap as map
use Rattle.std.specs.FinSet as set
use Rattle.shred_world.specs.ResourceIds.{id_of}
use Rattle.shred_world.specs.Worlds.{Slots}
use Rattle.specs_entity.specs.Births.{Births, allocated, all_buried, merged, newborn}
use Rattle.specs_entity.specs.declared.ids.Entity.{Entity}
use Rattle.specs_join.specs.Joining.{Joining, items_left}
use Rattle.specs_join.specs.Joins.{join_list}
use Rattle.specs_layouts.specs.Masked.{Masked}

-- which values of a world are its entities and its table of kinds, and the kind numbers of both, of its queues and of its shared queue
pub record Basis (V : Type 0) : Type 0 where
  pub entities : Births → V
  pub table : List ℕ → V
  pub entities_kind : ℕ
  pub table_kind : ℕ
  pub queue_kind : ℕ
  pub shared_kind : ℕ

-- a kind of parts: its number, which values are its storages, and the part that a storage's layout has at an index
pub record Kind (V S T : Type 0) : Type 0 where
  pub number : ℕ
  pub wrapped : Masked S → V
  pub part_at : S → ℕ → Option T

-- the number is none of the list's
abbrev pub is_none_of : ℕ → List ℕ → Bool
is_none_of number [] = true
is_none_of number (other ∷ others) = not (number == other) && is_none_of number others

-- no number stands twice
abbrev pub are_distinct : List ℕ → Bool
are_distinct [] = true
are_distinct (number ∷ numbers) = is_none_of number numbers && are_distinct numbers

-- the kind numbers of what each world has
abbrev pub numbers_of : {V : Type 0} → Basis V → List ℕ
numbers_of basis = basis.entities_kind ∷ basis.table_kind ∷ basis.queue_kind ∷ basis.shared_kind ∷ []

-- the numbers of a kind and of what each world has are distinct
abbrev pub AreApart : {V S T : Type 0} → Basis V → Kind V S T → Type 0
AreApart basis kind = are_distinct (kind.number ∷ numbers_of basis) ≡ true

-- entities stand with these births, the table has these kinds, and there is no queue
pub record IsStocked {V : Type 0} (basis : Basis V) (births : Births) (kinds : List ℕ) (w : Slots V) : Type 0 where
  pub entities : map.get w (id_of basis.entities_kind 0) ≡ Some (Some (basis.entities births))
  pub table : map.get w (id_of basis.table_kind 0) ≡ Some (Some (basis.table kinds))
  pub unqueued : (number : ℕ) → map.get w (id_of basis.queue_kind number) ≡ None
  pub unshared : map.get w (id_of basis.shared_kind 0) ≡ None

-- a storage of the kind stands, and has this part at each index
pub record HasParts {V S T : Type 0} (kind : Kind V S T) (parts : ℕ → Option T) (w : Slots V) : Type 0 where
  pub storage : Masked S
  pub stands : map.get w (id_of kind.number 0) ≡ Some (Some (kind.wrapped storage))
  pub each : (index : ℕ) → kind.part_at storage.inner index ≡ parts index

-- the parts, but with this at an index
abbrev pub with_at : {T : Type 0} → (ℕ → Option T) → ℕ → Option T → ℕ → Option T
with_at parts at part index = if index == at then part else parts index

-- the parts, but for those of the members of a set
abbrev pub without_members : {T : Type 0} → (ℕ → Option T) → (ℕ → Bool) → ℕ → Option T
without_members parts is_member index = if is_member index then None else parts index

-- no part, and then these edits, of which the first was made last
abbrev pub edited : {T : Type 0} → List (ℕ × Option T) → ℕ → Option T
edited [] index = None
edited (edit ∷ edits) index = with_at (edited edits) edit.0 edit.1 index

-- each edit is at an index below this
abbrev pub are_below : {T : Type 0} → ℕ → List (ℕ × Option T) → Bool
are_below count [] = true
are_below count (edit ∷ edits) = nat_lt edit.0 count && are_below count edits

-- the indices rise from this one on, and are below 2 ^ 24
abbrev pub rises : ℕ → List ℕ → Bool
rises low [] = true
rises low (index ∷ indices) = nat_le low index && (nat_lt index 16777216 && rises (index + 1) indices)

-- some parts of a layout are listed, and a join has the others still to give
abbrev pub ListsOn : {M S T : Type 0} → (S → ℕ → Option T) → S → List T → Joining M (Bor S) → Type 0
ListsOn part_at layout list joining = join_list (part_at layout) ≡ list ++ items_left (λ lent. part_at lent.now) joining

-- the next entity came to life with a part of the kind
abbrev pub Builds : {V S T : Type 0} → Basis V → Kind V S T → T → Entity → Slots V → Slots V → Type 0
Builds {T = T} basis kind part entity before after =
    (births : Births) (kinds : List ℕ) (parts : ℕ → Option T) → IsStocked basis births kinds before → HasParts kind parts before
    → (entity ≡ newborn births) × IsStocked basis (allocated births) kinds after × HasParts kind (with_at parts (newborn births).id (Some part)) after

-- an entity died, with its part of the kind, where the table has the kind
abbrev pub Kills : {V S T : Type 0} → Basis V → Kind V S T → Entity → Slots V → Slots V → Type 0
Kills {T = T} basis kind entity before after =
    (births : Births) (kinds : List ℕ) (parts : ℕ → Option T) → IsStocked basis births kinds before → list_any (λ k. k == kind.number) kinds ≡ true
    → HasParts kind parts before → IsStocked basis (all_buried births (entity.id ∷ [])) kinds after × HasParts kind (with_at parts entity.id None) after

-- births became persistent, and the entities whose deletion was accepted died, with their parts of the kind, where the table has the kind
abbrev pub Settles : {V S T : Type 0} → Basis V → Kind V S T → Slots V → Slots V → Type 0
Settles {T = T} basis kind before after =
    (births : Births) (kinds : List ℕ) (parts : ℕ → Option T) → IsStocked basis births kinds before → list_any (λ k. k == kind.number) kinds ≡ true
    → HasParts kind parts before → IsStocked basis (merged births) kinds after × HasParts kind (without_members parts (set.contains births.deletions)) after
