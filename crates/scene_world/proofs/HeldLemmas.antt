-- A value that is taken out, and put back another.
use Rattle.std.proofs.Common.{◌≡◌, cond, Some, ap, ◌∙◌}
use Rattle.shred_world.specs.declared.resource_id.ResourceId.{ResourceId}
use Rattle.shred_world.specs.Bundles.{Slot, absent, out, shared, owned, Holding, readable, takable, with_slot}
use Rattle.shred_world.proofs.CallerLemmas.{same_id-itself}
use Rattle.scene_world.specs.Held.{Sets}

-- what may be taken may be read
pub taken-read : {V : Type 0} (slot : Slot V) (v : V) → takable slot ≡ Some v → readable slot ≡ Some v
taken-read absent v e = cc
taken-read out v e = cc
taken-read (shared x) v e = cc
taken-read (owned x) v e = e

-- what was taken out and put back stands there
pub sets-one : {V : Type 0} (seen middle left : Holding V) (id : ResourceId) (v : V) → middle ≡ with_slot seen id out → left ≡ with_slot middle id (owned v) → Sets id v seen left
sets-one seen middle left id v taken put = record {
  here = ap (λ h. readable (h id)) put ∙ ap (λ b. readable (cond b (owned v) (middle id))) (same_id-itself id);
  others = λ other differ. ap (λ h. h other) put ∙ ap (λ b. cond b (owned v) (middle other)) differ ∙ ap (λ h. h other) taken ∙ ap (λ b. cond b out (seen other)) differ;
}
