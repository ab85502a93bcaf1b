-- Numbers that are taken out of what is held, changed, and put back.
use Rattle.std.proofs.Common.{◌≡◌, ℕ, Bool, true, false, cond, Some, Result, Ok, Err, OnOk, IfErr, refl, ap, sym, ◌∙◌, subst}
use Rattle.std.proofs.Math.Path.{fun_ext}
use Rattle.shred_world.specs.declared.resource_id.ResourceId.{ResourceId}
use Rattle.shred_world.specs.ResourceIds.{same_id}
use Rattle.shred_world.specs.Bundles.{Slot, absent, shared, out, owned, Holding, takable, with_slot}
use Rattle.shred_world.proofs.CallerLemmas.{same_id-is}
use Rattle.shred_stages.specs.declared.stop.Stop.{Stop}
use Rattle.shred_stages.specs.declared.stop.Stop.TheVariants as stop
use Rattle.specs_join.specs.declared.join.change.EachError.{EachError}
use Rattle.specs_join.specs.declared.join.change.EachError.TheVariants as error
use Rattle.specs_join.specs.ChangeEach.{IsRefused}
use Rattle.specs_join.specs.EachErrors.{OnRefused}
use Rattle.scene_model.specs.Parts.{Name}
use Rattle.scene_basics.specs.declared.data.Gain.{Gain}
use Rattle.scene_basics.specs.declared.values.Value.{Value}
use Rattle.scene_basics.specs.Values.{Numbers, whole_at}
use Rattle.scene_basics.specs.Columns.{part_id}
use Rattle.scene_basics.specs.Adding.{gained, addend, WritesNumbers, SaysOverflow, SaysWhy, StopsAdding}

-- what is said of an answer, where it is known which it is
pub came-ok : {T E : Type 0} (P : Type 0) (answer : Result T E) (value : T) → answer ≡ Ok value → OnOk answer P → P
came-ok {T} {E} P answer value is said = subst (λ (a : Result T E). OnOk a P) is said

pub came-err : {T E : Type 0} (P : E → Type 0) (answer : Result T E) (failure : E) → answer ≡ Err failure → IfErr answer P → P failure
came-err {T} {E} P answer failure is said = subst (λ (a : Result T E). IfErr a P) is said

-- a slot from which something can be taken owns it
owns : {V : Type 0} (v : V) (slot : Slot V) → takable slot ≡ Some v → slot ≡ owned v
owns v absent e = cc
owns v out e = cc
owns v (shared x) e = cc
owns v (owned x) e = cc

-- a value that was taken out and put back again is where it was
pub put-again : {V : Type 0} (w : Holding V) (id : ResourceId) (v : V) → takable (w id) ≡ Some v → with_slot (with_slot w id out) id (owned v) ≡ w
put-again {V} w id v e = fun_ext (λ q. by q (same_id q id) refl)
  where
    by : (q : ResourceId) (b : Bool) → same_id q id ≡ b → cond b (owned v) (cond b out (w q)) ≡ w q
    by q true is = sym (ap w (same_id-is q id is) ∙ owns v (w id) e)
    by q false is = refl

-- one that was put back changed stands there in its place
pub put-back : {V : Type 0} (w : Holding V) (id : ResourceId) (v : V) → with_slot (with_slot w id out) id (owned v) ≡ with_slot w id (owned v)
put-back {V} w id v = fun_ext (λ q. by (same_id q id) (w q))
  where
    by : (b : Bool) (slot : Slot V) → cond b (owned v) (cond b out slot) ≡ cond b (owned v) slot
    by true slot = refl
    by false slot = refl

-- a refusal of somebody who is known, whose sum is too much
too-much : (kind : Name) (gain : Gain) (seen left : Holding Value) (before after : Numbers) (index : ℕ) (why : Stop) → WritesNumbers kind before after seen left
    → IsRefused gained (whole_at before) (addend gain (with_slot seen (part_id kind) out)) index → SaysOverflow left index why → StopsAdding kind gain seen left why
too-much kind gain seen left before after index (stop.Refused text) writes refused says = (says.0, record { before = before; after = after; writes = writes; index = index; id = says.1; known = says.2; refused = refused })
too-much kind gain seen left before after index stop.Memory writes refused says = tt
too-much kind gain seen left before after index stop.Full writes refused says = says

-- what is said of an error of additions
pub stops-adding : (kind : Name) (gain : Gain) (seen left : Holding Value) (before after : Numbers) (why : Stop) (failure : EachError (Unit {0})) → WritesNumbers kind before after seen left
    → OnRefused (IsRefused gained (whole_at before) (addend gain (with_slot seen (part_id kind) out))) failure → SaysWhy left failure why → StopsAdding kind gain seen left why
stops-adding kind gain seen left before after why error.Memory writes refused says = subst (StopsAdding kind gain seen left) (sym says) tt
stops-adding kind gain seen left before after why (error.Refused index nothing) writes refused says = too-much kind gain seen left before after index why writes refused says
