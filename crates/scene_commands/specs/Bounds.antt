-- What bounds the entities of a world, and how many more of them are born as time goes on.
use Rattle.std.specs.Prelude.{◌≡◌, ◌<◌, ◌≤◌, ◌+◌, ◌-◌, ℕ, length, None, slice_index_or}
use Rattle.specs_entity.specs.Births.{Births, count, living}
use Rattle.scene_document.specs.Drafts.{Draft}
use Rattle.scene_world.specs.Rolls.{Roll, ids_in}

-- an index waits for its next birth
abbrev pub Waits : Births → ℕ → Type 0
Waits births index = (place : ℕ) × (place < length births.cache) × (slice_index_or births.cache place 0 ≡ index)

-- at each index that was ever used somebody lives, or it waits for its next birth
abbrev pub AreInUse : Births → Type 0
AreInUse births = (index : ℕ) → index < length births.persistent → living births index ≡ None → Waits births index

-- under the same bounds an index has had at most as many births more as a number grew, and no index is lost
pub record Grows (before after : Births) (had has : ℕ) : Type 0 where
  pub indices : after.indices ≡ before.indices
  pub generations : after.generations ≡ before.generations
  pub counts : (index : ℕ) → count after index + had ≤ count before index + has
  pub in_use : AreInUse before → AreInUse after

-- an index had at most as many births more as ids were given
abbrev pub GrowsByIds : Roll → Roll → Type 0
GrowsByIds before after = Grows before.births after.births before.noting.next after.noting.next

-- an index had at most as many births more as more ids live
abbrev pub GrowsByLiving : Roll → Roll → Type 0
GrowsByLiving before after = Grows before.births after.births (length (ids_in before)) (length (ids_in after))

-- how many ids below the next one of a document it doesn't list
abbrev pub unlisted_in : Draft → ℕ
unlisted_in draft = draft.next - length draft.entities

-- Who lives in a world is bounded by so many indices and so many births of each; no index is lost; and each id below the next one is of
-- somebody who was born, but for so many.
pub record IsBounded (most_indices most_births unlisted : ℕ) (roll : Roll) : Type 0 where
  pub indices : roll.births.indices ≡ most_indices
  pub generations : roll.births.generations ≡ most_births
  pub in_use : AreInUse roll.births
  pub counts : (index : ℕ) → count roll.births index + unlisted ≤ roll.noting.next
