-- What a reader gave in a call.
use Rattle.std.specs.Prelude.{ℕ, ◌≤◌, List, length, Option}
use Rattle.std.specs.Io.KnownBytes.{Consumes}

-- the reader lost a first part of its bytes of at least this length
abbrev pub GivesAtLeast : ℕ → Option (List ℕ) → Option (List ℕ) → Type 0
GivesAtLeast count before after = (given : List ℕ) × Consumes before after given × (count ≤ length given)
