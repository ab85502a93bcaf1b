-- What does nothing.
use Rattle.std.specs.Prelude.{◌≡◌, Bool, true, Option, None}
use Rattle.shred_world.specs.Worlds.{Slots}
use Rattle.shred_world.specs.Bundles.{Holding}
use Rattle.shred_stages.specs.declared.stop.Stop.{Stop}

-- a run that isn't refused and changes nothing
abbrev pub ChangesNothing : {V : Type 0} → Holding V → Option Stop → Holding V → Type 0
ChangesNothing w refused w_after = (refused ≡ None) × (w_after ≡ w)

-- so it is with a setup
abbrev pub SetsUpNothing : {V : Type 0} → Bool → Slots V → Slots V → Type 0
SetsUpNothing accepted w w_after = (accepted ≡ true) × (w_after ≡ w)
