-- The private steps of a walk. No public clause cites this file.
use Rattle.std.specs.Prelude.{◌≡◌, ◌≢◌, ℕ, ◌<◌, true, false, List, length, slice_index}
use Rattle.hibitset_sets.specs.Bits.{has_bit}

-- the lowest bit left the mask of a layer, and all else stayed
pub record TakesLowest (masks masks' : List ℕ) (layer place : ℕ) : Type 0 where
  pub within : place < 64
  pub long : length masks' ≡ length masks
  pub was : has_bit (slice_index masks layer) place ≡ true
  pub least : (i : ℕ) → i < place → has_bit (slice_index masks layer) i ≡ false
  pub gone : has_bit (slice_index masks' layer) place ≡ false
  pub stay : (i : ℕ) → i < 64 → i ≢ place → has_bit (slice_index masks' layer) i ≡ has_bit (slice_index masks layer) i
  pub others : (k : ℕ) → k ≢ layer → slice_index masks' k ≡ slice_index masks k
