-- Where the slots of a world stand: in a list, in the order of their ids. No public clause cites it.
use Rattle.std.specs.Prelude.{◌≡◌, ◌≢◌, ◌==◌, ◌<◌, ◌≤◌, ℕ, List, [], ◌∷◌, Option, Some, None, is_some, length, if◌then◌else◌}
use Rattle.std.specs.declared.cmp.Ordering.TheVariants.{Less, Greater}
use Rattle.std.specs.List.{HoldsAt}
use Rattle.std.specs.List.Sorted.{IsStrictlySortedBy, IsPartitionPoint}
use Rattle.std.specs.Map.{keys_of}
use Rattle.shred_world.specs.declared.resource_id.ResourceId.{ResourceId}
use Rattle.shred_world.specs.ResourceIds.{id_cmp}

-- the ids of the slots rise, so none stands twice
abbrev pub AreSorted : {X : Type 0} → List (ResourceId × X) → Type 0
AreSorted slots = IsStrictlySortedBy id_cmp (keys_of slots)

-- the slot at the place is that of the id
pub record IsPlaceOf {X : Type 0} (slots : List (ResourceId × X)) (id : ResourceId) (place : ℕ) : Type 0 where
  pub in_range : place < length slots
  pub has : HoldsAt (λ slot. slot.0 ≡ id) slots place

-- the id has no slot: lesser ids stand before the place, greater ones from it on
pub record IsGapFor {X : Type 0} (slots : List (ResourceId × X)) (id : ResourceId) (place : ℕ) : Type 0 where
  pub in_range : place ≤ length slots
  pub parted : IsPartitionPoint (λ slot. id_cmp slot.0 id ≡ Less) (λ slot. id_cmp slot.0 id ≡ Greater) slots place

-- the slots before the place have lesser ids, and none from it on has one
pub record IsStartOf {X : Type 0} (slots : List (ResourceId × X)) (id : ResourceId) (place : ℕ) : Type 0 where
  pub in_range : place ≤ length slots
  pub parted : IsPartitionPoint (λ slot. id_cmp slot.0 id ≡ Less) (λ slot. id_cmp slot.0 id ≢ Less) slots place

-- the number of the first slot with a value, where no slot of another kind comes before it
abbrev pub first_valued : {V : Type 0} → (kind : ℕ) → List (ResourceId × Option V) → Option ℕ
first_valued kind [] = None
first_valued kind (slot ∷ slots) = if slot.0.kind == kind then (if is_some slot.1 then Some slot.0.dynamic else first_valued kind slots) else None
