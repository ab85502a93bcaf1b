-- A bundle that was fetched, changed and given back.
use Rattle.std.proofs.Common.{◌≡◌, inl, inr, ap, ◌∙◌, subst, Option, None}
use Rattle.shred_world.specs.declared.resource_id.ResourceId.{ResourceId}
use Rattle.shred_world.specs.Bundles.{Holding}
use Rattle.shred_stages.specs.declared.stop.Stop.{Stop}
use Rattle.shred.specs.Bundling.{ChangesBundle, BundleMeets}

module _ {V C B : Type 0} (left : Holding V → Holding V) (fits : B → Holding V → Type 0) (given : B → Holding V → Holding V)
    (becomes : C → B → Holding V → Option Stop → C → B → Type 0) where
  -- what is beside the bundle is what its fetch left
  pub bundle-changed : (change change_after : C) (seen held after : Holding V) (refused : Option Stop) (bundle changed : B) → held ≡ left seen → fits bundle seen
      → becomes change bundle held refused change_after changed → after ≡ given changed held → ChangesBundle left fits given becomes change seen refused change_after after
  bundle-changed change change_after seen held after refused bundle changed fetched fits_seen becoming gives =
      let P : Holding V → Type 0 = λ h. becomes change bundle h refused change_after changed in
      record { bundle = bundle; changed = changed; fits_seen = fits_seen; becoming = subst P fetched becoming; given_back = gives ∙ ap (given changed) fetched }

  -- a run that isn't refused has changed the bundle
  pub accepted-changes : (lack : Holding V → Option ResourceId) (change change_after : C) (seen after : Holding V) → BundleMeets lack left fits given becomes change seen None change_after after → ChangesBundle left fits given becomes change seen None change_after after
  accepted-changes lack change change_after seen after (inl wanting) = let e = wanting.refuses in cc
  accepted-changes lack change change_after seen after (inr changes) = changes
