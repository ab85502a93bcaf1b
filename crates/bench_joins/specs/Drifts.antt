-- What a drift makes of a place.
use Rattle.std.specs.Prelude.{◌+◌, ◌%◌, ◌^◌, Option, Some}
use Rattle.bench_joins.specs.declared.changes.parts.Place.{Place}
use Rattle.bench_joins.specs.declared.changes.parts.Drift.{Drift}

-- a place after a drift was added, which goes round at 2 ^ 32
abbrev pub drifted : Place → Drift → Option Place
drifted place drift = Some (record { along = (place.along + drift.along) % 2 ^ 32 })
