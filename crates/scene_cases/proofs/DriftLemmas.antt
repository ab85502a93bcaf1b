-- Lemmas on what drift fetches and gives back.
use Rattle.std.proofs.Common.{◌≡◌, Bool, true, false, cond, Option, Some, None, refl, ap, sym, ◌∙◌}
use Rattle.std.specs.Prelude.{option_and_then, option_map}
use Rattle.std.proofs.Math.Path.{fun_ext}
use Rattle.shred_world.specs.ResourceIds.{same_id}
use Rattle.shred_world.specs.Bundles.{Slot, Holding, readable, with_slot, out, owned}
use Rattle.scene_cases.specs.Drifts.{Velocities, velocities_in, position_id, velocity_id}
use Rattle.scene_cases.specs.declared.turns.values.Value.{Value}
use Rattle.scene_cases.specs.declared.turns.values.Value.TheVariants.{EntitiesValue, MarkersValue, AllocatorValue, QueueValue, PositionValue, VelocityValue}

-- a value in which velocities are seen holds them
seen-velocities : (slot : Option Value) (parts : Velocities) → Some parts ≡ option_and_then velocities_in slot → slot ≡ Some (VelocityValue parts)
seen-velocities None parts e = cc
seen-velocities (Some (EntitiesValue x)) parts e = cc
seen-velocities (Some (MarkersValue x)) parts e = cc
seen-velocities (Some (AllocatorValue x)) parts e = cc
seen-velocities (Some (QueueValue x)) parts e = cc
seen-velocities (Some (PositionValue x)) parts e = cc
seen-velocities (Some (VelocityValue x)) parts e = ap (option_map VelocityValue) (sym e)

-- velocities that are seen where the positions were taken out are those that were there
pub velocities-are-there : (seen fetched : Holding Value) (parts : Velocities) → fetched ≡ with_slot seen position_id out → Some parts ≡ option_and_then velocities_in (readable (fetched velocity_id)) → readable (seen velocity_id) ≡ Some (VelocityValue parts)
velocities-are-there seen fetched parts taken e = seen-velocities (readable (seen velocity_id)) parts (e ∙ ap (λ w. option_and_then velocities_in (readable (w velocity_id))) taken)

-- positions that were taken out and put back
pub put-back : (seen fetched left : Holding Value) (v : Value) → fetched ≡ with_slot seen position_id out → left ≡ with_slot fetched position_id (owned v) → left ≡ with_slot seen position_id (owned v)
put-back seen fetched left v taken put = put ∙ ap (λ w. with_slot w position_id (owned v)) taken ∙ fun_ext (λ id. by (same_id id position_id) (seen id))
  where
    by : (b : Bool) (slot : Slot Value) → cond b (owned v) (cond b out slot) ≡ cond b (owned v) slot
    by true slot = refl
    by false slot = refl
