-- What writers of systems cite.
pub use Rattle.shred_stages.proofs.DisposeLemmas.{dispose-end, dispose-next, empty-by-length, map-itself}
pub use Rattle.shred_stages.proofs.FreeLemmas.{planned-fence, planned-free, planned-more, planned-start}
pub use Rattle.shred_stages.proofs.LeaveLemmas.{leaves-itself, leaves-leaves, leaves-to, step-leaves}
pub use Rattle.shred_stages.proofs.LendLemmas.{left-other}
pub use Rattle.shred_stages.proofs.LiftLemmas.{lent-owned, lent-read, plan-turn, stages-turns, step-lifted, turn-of, turns-in-any-order, turns-in-order, lent-back}
pub use Rattle.shred_stages.proofs.NeighbourLemmas.{same-itself, same-turned}
pub use Rattle.shred_stages.proofs.PlanLemmas.{contains-in, in-contains}
pub use Rattle.shred_stages.proofs.SetupLemmas.{set-up-one, set-up-both, set-up-stops}
pub use Rattle.shred_stages.proofs.TurnLemmas.{neighbours-commute, turns-commute}
pub use Rattle.shred_stages.proofs.ViewLemmas.{turn-seat, turn-slots, turn-step}
use Rattle.std.proofs.Common.{◌≡◌, Bool, true, false, refl, ap, sym, ◌∙◌, subst, Some}
use Rattle.std.specs.Prelude.{if◌then◌else◌}
use Rattle.shred_world.specs.declared.resource_id.ResourceId.{ResourceId}
use Rattle.shred_world.specs.ResourceIds.{same_id}
use Rattle.shred_world.specs.Bundles.{Slot, absent, out, shared, owned, Holding, takable, with_slot}
use Rattle.shred_world.proofs.CallerLemmas.{same_id-is, same_id-itself}
use Rattle.shred_stages.specs.Views.{IsLeft, Leaves}

is_left-same : {V : Type 0} (slot : Slot V) → IsLeft slot slot
is_left-same absent = refl
is_left-same out = refl
is_left-same (shared v) = refl
is_left-same (owned v) = (v, refl)

-- a system that does nothing leaves all
pub leaves-same : {V : Type 0} (before after : Holding V) → after ≡ before → Leaves before after
leaves-same {V} before after e id = let P : Holding V → Type 0 = λ h. IsLeft (before id) (h id) in subst P (sym e) (is_left-same (before id))

-- a system that takes a value and puts another back leaves the others
pub leaves-one : {V : Type 0} (before middle after : Holding V) (id : ResourceId) (v w : V) → takable (before id) ≡ Some v → middle ≡ with_slot before id out → after ≡ with_slot middle id (owned w) → Leaves before after
leaves-one {V} before middle after id v w there taken put q =
    let P : Holding V → Type 0 = λ h. IsLeft (before q) (h q) in
    subst P (sym (put ∙ ap (λ h. with_slot h id (owned w)) taken)) (by (same_id q id) refl)
  where
    here : (slot : Slot V) → takable slot ≡ Some v → IsLeft slot (owned w)
    here absent e = cc
    here out e = cc
    here (shared x) e = cc
    here (owned x) e = (w, refl)

    by : (s : Bool) → same_id q id ≡ s → IsLeft (before q) (if s then owned w else (if s then out else before q))
    by true is = let Q : ResourceId → Type 0 = λ r. IsLeft (before r) (owned w) in subst Q (sym (same_id-is q id is)) (here (before id) there)
    by false is = is_left-same (before q)

-- what was taken is out
pub taken-out : {V : Type 0} (before after : Holding V) (id : ResourceId) → after ≡ with_slot before id out → after id ≡ out
taken-out before after id e = ap (λ h. h id) e ∙ ap (λ b. if b then out else before id) (same_id-itself id)
