-- What code that is generic over a bundle cites: a bundle that was fetched, changed and given back.
use Rattle.std.proofs.Common.{◌≡◌, refl, sym, subst, List}
use Rattle.shred_world.specs.declared.resource_id.ResourceId.{ResourceId}
use Rattle.shred_world.specs.Bundles.{Slot, absent, out, shared, owned, Holding}
use Rattle.shred_world.specs.Leaving.{IsLeft, Leaves}
use Rattle.shred_world.specs.BundleLaws.{IsLawful}

slot-itself : {V : Type 0} (slot : Slot V) → IsLeft slot slot
slot-itself absent = refl
slot-itself out = refl
slot-itself (shared v) = refl
slot-itself (owned v) = (v, refl)

-- what is the same is left
pub same-leaves : {V : Type 0} (w now : Holding V) → now ≡ w → Leaves w now
same-leaves {V} w now e = let P : Holding V → Type 0 = λ h. Leaves w h in subst P (sym e) (λ id. slot-itself (w id))

module _ {V B : Type 0} {write_ids : List ResourceId} {left : Holding V → Holding V} {fits : B → Holding V → Type 0} {given : B → Holding V → Holding V}
    {can_give : B → Holding V → Type 0} {alike : B → B → Type 0} (lawful : IsLawful write_ids left fits given can_give alike)
    (bundle changed : B) (seen now : Holding V) (fits_seen : fits bundle seen) (is_alike : alike bundle changed) (fetched : now ≡ left seen) where
  -- it can be given back
  pub changed-can_give : can_give changed now
  changed-can_give = lawful.can_come_back bundle changed seen now fits_seen is_alike (same-leaves (left seen) now fetched)

  -- and what it wrote has come back then
  pub changed-leaves : (after : Holding V) → after ≡ given changed now → Leaves seen after
  changed-leaves after e =
      let P : Holding V → Type 0 = λ h. Leaves seen h in
      subst P (sym e) (lawful.comes_back bundle changed seen now fits_seen is_alike (same-leaves (left seen) now fetched))
