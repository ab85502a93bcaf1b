-- Deletions that are accepted together. No public clause cites this file.
use Rattle.std.specs.Prelude.{◌≡◌, ℕ, ◌/◌, ◌%◌, ◌==◌, ◌&&◌, ◌||◌, nat_lt, Bool}
use Rattle.std.specs.FinSet as set
use Rattle.hibitset_sets.specs.Bits.{has_bit}
use Rattle.specs_entity.specs.Births.{Births}

-- the same births but for the deletions
pub record IsSameBut (before after : Births) : Type 0 where
  pub persistent : after.persistent ≡ before.persistent
  pub fresh : after.fresh ≡ before.fresh
  pub cache : after.cache ≡ before.cache
  pub indices : after.indices ≡ before.indices
  pub generations : after.generations ≡ before.generations

-- an index was deleted before, or is that of a bit of a word, below a place in it
abbrev pub accepted_in : ℕ → ℕ → ℕ → Births → ℕ → Bool
accepted_in word place below births index = ((index / 64 == place) && (nat_lt (index % 64) below && has_bit word (index % 64))) || set.contains births.deletions index
