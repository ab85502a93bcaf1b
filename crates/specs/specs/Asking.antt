-- Queues that systems write, each under its own number.
use Rattle.std.specs.Prelude.{◌≡◌, ℕ, zero, suc, List, [], ◌∷◌, ◌++◌, Some, is_some, if◌then◌else◌}
use Rattle.std.specs.FinMap as map
use Rattle.shred_world.specs.declared.resource_id.ResourceId.{ResourceId}
use Rattle.shred_world.specs.ResourceIds.{id_of}
use Rattle.shred_world.specs.Bundles.{Holding, owned, with_slot}
use Rattle.shred_world.specs.Worlds.{Slots, value_at}
use Rattle.specs_world.specs.Resources.{Place}

-- the id of the queue under a number
abbrev pub queue_id : {V J : Type 0} → Place V (List J) → ℕ → ResourceId
queue_id at number = id_of at.id.kind number

-- a job was queued under a number, behind those that waited there, and no other slot changed
pub record Asks {V J : Type 0} (at : Place V (List J)) (number : ℕ) (job : J) (seen left : Holding V) : Type 0 where
  pub waited : List J
  pub written : seen (queue_id at number) ≡ owned (at.wrapped waited)
  pub queued : left ≡ with_slot seen (queue_id at number) (owned (at.wrapped (waited ++ job ∷ [])))

-- the world with a queue without jobs under a number, where no value stands there
abbrev pub with_queue : {V J : Type 0} → Place V (List J) → Slots V → ℕ → Slots V
with_queue at w number = if is_some (value_at w (queue_id at number)) then w else map.insert w (queue_id at number) (Some (at.wrapped []))

-- and so under each number from 1 on, so many
abbrev pub with_queues : {V J : Type 0} → Place V (List J) → Slots V → ℕ → Slots V
with_queues at w zero = w
with_queues at w (suc number) = with_queue at (with_queues at w number) (suc number)
