-- What drifting makes of a place, and a push of a place and its drift.
use Rattle.std.specs.Prelude.{◌+◌, ◌/◌, ◌%◌, nat_lt, Option, Some, None, if◌then◌else◌}
use Rattle.specs_tests.specs.declared.drifting.Place.{Place}
use Rattle.specs_tests.specs.declared.drifting.Drift.{Drift}

-- a place after a drift was added, where the sum fits
abbrev pub drifted : Place → Drift → Option Place
drifted place drift = if nat_lt (place.along + drift.along) 4294967296 then Some (record { along = place.along + drift.along }) else None

-- a place that has gained a drift; a sum goes round at 2 ^ 32
abbrev pub pushed : Place → Drift → Option Place
pushed place drift = Some (record { along = (place.along + drift.along) % 4294967296 })

-- a drift that has pushed a place: the half of it
abbrev pub slowed : Drift → Place → Option Drift
slowed drift place = Some (record { along = drift.along / 2 })
