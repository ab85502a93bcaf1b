-- Facts on each id's slot: what an edit of a world does to it, and what edits of one slot leave.
use Rattle.std.proofs.Common.{◌≡◌, Bool, true, false, cond, Option, Some, inr, refl, ap, ◌∙◌}
use mathlib.Core.Path.{fun_ext}
use Rattle.std.specs.Ordering.{eq_by_cmp}
use Rattle.std.specs.FinMap.{insert, get, get-insert}
use Rattle.shred_world.specs.declared.resource_id.ResourceId.{ResourceId}
use Rattle.shred_world.specs.ResourceIds.{id_cmp, same_id}
use Rattle.shred_world.specs.Worlds.{Slots}
use Rattle.shred_world.specs.Bundles.{Slot, Holding, SetsUpInTurn, slot_of, holding_of, with_slot}
use Rattle.shred_world.proofs.IdLemmas.{ids_total}

module _ {V : Type 0} where
  slot_of-cond : (b : Bool) (o p : Option (Option V)) → slot_of (cond b o p) ≡ cond b (slot_of o) (slot_of p)
  slot_of-cond true o p = refl
  slot_of-cond false o p = refl

  -- a slot put into a world
  pub holding_of-insert : (w : Slots V) (id : ResourceId) (x : Option V) → holding_of (insert w id x) ≡ with_slot (holding_of w) id (slot_of (Some x))
  holding_of-insert w id x = fun_ext (λ q. ap slot_of (get-insert ids_total w id x q) ∙ slot_of-cond (eq_by_cmp id_cmp q id) (Some x) (get w q))

  twice : (b : Bool) (x y z : Slot V) → cond b x (cond b y z) ≡ cond b x z
  twice true x y z = refl
  twice false x y z = refl

  -- of two edits of one slot the later counts
  pub with_slot-with_slot : (w : Holding V) (id : ResourceId) (x y : Slot V) → with_slot (with_slot w id x) id y ≡ with_slot w id y
  with_slot-with_slot w id x y = fun_ext (λ q. twice (same_id q id) y x (w q))

-- two setups, the first of which was accepted
pub in_turn : {V : Type 0} (first second : Bool → Slots V → Slots V → Type 0) (accepted : Bool) (old middle new : Slots V) → first true old middle → second accepted middle new
    → SetsUpInTurn first second accepted old new
in_turn first second true old middle new p q = (middle, p, q)
in_turn first second false old middle new p q = inr (middle, p, q)
