-- What users of bundles cite.
pub use Rattle.shred_world.proofs.IdLemmas.{ids_total, same_id-is, same_id-itself, is_eq-then}
pub use Rattle.shred_world.proofs.WorldLemmas.{get-insert_here, insert-insert, insert_value_same, one_put, one_removed, same_made, slot_at, flattened}
use Rattle.std.proofs.Common.{◌≡◌, Option, Some, None, IsSome, is_some, cond, ap, ◌∙◌}
use Rattle.std.specs.FinMap as map
use Rattle.std.specs.Option.{option_and_then}
use Rattle.shred_world.specs.declared.resource_id.ResourceId.{ResourceId}
use Rattle.shred_world.specs.Bundles.{Holding, readable}
use Rattle.shred_world.specs.Worlds.{Slots}

-- what is read in the slots that a fetch left is read in the holder
pub reads_on : {V R : Type 0} (part : V → Option R) (holder left : Holding V) (id : ResourceId) → holder ≡ left → IsSome (option_and_then part (readable (left id)))
    → IsSome (option_and_then part (readable (holder id)))
reads_on part holder left id same there = ap (λ w. is_some (option_and_then part (readable (w id)))) same ∙ there

-- the slot of a value that was taken out is empty, as `put_back` asks
pub slot-is-out : {V : Type 0} (w w' : Slots V) (id : ResourceId) → w' ≡ map.insert w id None → map.get w' id ≡ Some None
slot-is-out w w' id out = ap (λ m. map.get m id) out ∙ map.get-insert ids_total w id None id ∙ ap (λ b. cond b (Some None) (map.get w id)) (same_id-itself id)
