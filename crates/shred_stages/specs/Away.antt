-- Systems that are away with their groups: the slot of each is empty until it comes back.
use Rattle.std.specs.Prelude.{◌≡◌, ℕ, Option, None, Some, List, [], ◌∷◌, ◌++◌, map, slice_set, slice_index_or}
use Rattle.std.specs.Option.{option_to_list}
use Rattle.shred_world.specs.declared.resource_id.ResourceId.{ResourceId}
use Rattle.shred_world.specs.Bundles.{Holding, holding_of}
use Rattle.shred_plan.specs.Plan.{Group}
use Rattle.shred_stages.specs.declared.turn.Staged.{Staged}
use Rattle.shred_stages.specs.Moves.{HasSlots, moved_to}
use Rattle.shred_stages.specs.Apart.{group_reads, group_writes}
use Rattle.shred_stages.specs.Packs.{Packed, ArePlaced}
use Rattle.shred_stages.specs.Lending.{IsLent}

-- what is in the slot of a number
abbrev pub slot_at : {A : Type 0} → List (Option A) → ℕ → Option A
slot_at slots number = slice_index_or slots number None

-- slots from which the systems of a group were taken
abbrev pub vacated : {A : Type 0} → Group ResourceId → List (Option A) → List (Option A)
vacated [] slots = slots
vacated (one ∷ others) slots = vacated others (slice_set slots one.number None)

-- those systems, in the order of the group
abbrev pub standing : {A : Type 0} → Group ResourceId → List (Option A) → List A
standing [] slots = []
standing (one ∷ others) slots = option_to_list (slot_at slots one.number) ++ standing others (slice_set slots one.number None)

-- slots to which the systems of a group came back
abbrev pub returned : {A : Type 0} → Group ResourceId → List A → List (Option A) → List (Option A)
returned [] systems slots = slots
returned (one ∷ others) [] slots = slots
returned (one ∷ others) (system ∷ systems) slots = returned others systems (slice_set slots one.number (Some system))

-- the systems that are in their slots
abbrev pub systems_in : {A : Type 0} → List (Option A) → List A
systems_in [] = []
systems_in (None ∷ slots) = systems_in slots
systems_in (Some system ∷ slots) = system ∷ systems_in slots

-- no slot is empty
abbrev pub AreIn : {A : Type 0} → List (Option A) → Type 0
AreIn slots = slots ≡ map Some (systems_in slots)

-- a group was lent its systems and the values that it writes
pub record IsLoaded {V S : Type 0} (planned : Group ResourceId) (pack : Packed V S) (before after : List (Option (Staged V S))) (w w_after : Holding V) : Type 0 where
  pub group : pack.group ≡ planned
  pub reads : pack.reads ≡ group_reads planned
  pub writes : pack.writes ≡ group_writes planned
  pub systems : pack.systems ≡ map (λ one. one.system) (standing planned before)
  pub lent : IsLent planned pack w w_after
  pub slots : after ≡ vacated planned before

-- the values of a pack came back
abbrev pub IsHome : {V S : Type 0} → Packed V S → (w w_after : Holding V) → Type 0
IsHome pack w w_after = (id : ResourceId) → w_after id ≡ moved_to pack.writes (holding_of pack.seat) w id

-- so did those of some packs, one after the other
abbrev pub AreHome : {V S : Type 0} → List (Packed V S) → (w w_after : Holding V) → Type 0
AreHome [] w w_after = (id : ResourceId) → w_after id ≡ w id
AreHome {V} (pack ∷ packs) w w_after = (between : Holding V) × IsHome pack w between × AreHome packs between w_after

-- each value of some packs will find its empty slot
abbrev pub ComeHome : {V S : Type 0} → List (Packed V S) → Holding V → Type 0
ComeHome [] w = Unit {0}
ComeHome {V} (pack ∷ packs) w = HasSlots pack.writes (holding_of pack.seat) w × ((between : Holding V) → IsHome pack w between → ComeHome packs between)

-- the systems of a pack came back into their slots, each with its seat
pub record IsPutBack {V S : Type 0} (pack : Packed V S) (before after : List (Option (Staged V S))) : Type 0 where
  pub staged : List (Staged V S)
  pub placed : ArePlaced pack.group staged
  pub systems : map (λ one. one.system) staged ≡ pack.systems
  pub slots : after ≡ returned pack.group staged before

-- so did those of some packs, one after the other
abbrev pub ArePutBack : {V S : Type 0} → List (Packed V S) → (slots slots_after : List (Option (Staged V S))) → Type 0
ArePutBack [] slots slots_after = slots_after ≡ slots
ArePutBack {V} {S} (pack ∷ packs) slots slots_after = (between : List (Option (Staged V S))) × IsPutBack pack slots between × ArePutBack packs between slots_after
