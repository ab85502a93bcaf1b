-- masks of which nothing is left above layer 0 but bits of words that come later

use Rattle.std.proofs.Common.{◌≡◌, ℕ, zero, suc, [], ◌∷◌, false, refl, slice_index}
use Rattle.hibitset_sets.specs.Bits.{has_bit}

-- the second word of layer 0 is left, and not the first
pub second-left : (layer : ℕ) → has_bit (slice_index (32 ∷ 2 ∷ 0 ∷ 0 ∷ []) (suc layer)) 0 ≡ false
unfolding has_bit
second-left zero = refl
second-left (suc zero) = refl
second-left (suc (suc zero)) = refl
second-left (suc (suc (suc layer))) = refl

-- nothing is left above layer 0
pub none-left : (layer : ℕ) → has_bit (slice_index (32 ∷ 0 ∷ 0 ∷ 0 ∷ []) (suc layer)) 0 ≡ false
unfolding has_bit
none-left zero = refl
none-left (suc zero) = refl
none-left (suc (suc zero)) = refl
none-left (suc (suc (suc layer))) = refl
