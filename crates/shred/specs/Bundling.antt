-- What a system does that is made of a bundle and a change of it.
use Rattle.std.specs.Prelude.{◌≡◌, ◌⊎◌, Option, Some, IsSome}
use Rattle.shred_world.specs.declared.resource_id.ResourceId.{ResourceId}
use Rattle.shred_world.specs.Bundles.{Holding}
use Rattle.shred_stages.specs.declared.stop.Stop.{Stop}
use Rattle.shred_stages.specs.declared.stop.Stop.TheVariants.{Full}

-- a resource was wanting: the system refused, and all stayed as it was
pub record IsWanting {V C : Type 0} (lack : Holding V → Option ResourceId) (change : C) (seen : Holding V) (refused : Option Stop) (change_after : C) (after : Holding V) : Type 0 where
  pub wanting : IsSome (lack seen)
  pub refuses : refused ≡ Some Full
  pub stays : change_after ≡ change
  pub same : after ≡ seen

-- the bundle of what was seen was changed, and given back to what its fetch had left
pub record ChangesBundle {V C B : Type 0} (left : Holding V → Holding V) (fits : B → Holding V → Type 0) (given : B → Holding V → Holding V)
    (becomes : C → B → Holding V → Option Stop → C → B → Type 0) (change : C) (seen : Holding V) (refused : Option Stop) (change_after : C) (after : Holding V) : Type 0 where
  pub bundle : B
  pub changed : B
  pub fits_seen : fits bundle seen
  pub becoming : becomes change bundle (left seen) refused change_after changed
  pub given_back : after ≡ given changed (left seen)

-- one of the two
abbrev pub BundleMeets : {V C B : Type 0} → (lack : Holding V → Option ResourceId) → (left : Holding V → Holding V) → (fits : B → Holding V → Type 0) → (given : B → Holding V → Holding V)
    → (becomes : C → B → Holding V → Option Stop → C → B → Type 0) → C → Holding V → Option Stop → C → Holding V → Type 0
BundleMeets lack left fits given becomes change seen refused change_after after =
    IsWanting lack change seen refused change_after after ⊎ ChangesBundle left fits given becomes change seen refused change_after after

-- the bundle was fetched from what is held there
pub record IsFetched {V B : Type 0} (left : Holding V → Holding V) (fits : B → Holding V → Type 0) (bundle : B) (held : Holding V) : Type 0 where
  pub seen : Holding V
  pub fits_seen : fits bundle seen
  pub is_left : held ≡ left seen
