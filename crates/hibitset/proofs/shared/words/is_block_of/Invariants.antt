use Rattle.std.proofs.Common.{◌≡◌, ℕ, ◌*◌, ◌<◌, ◌≤◌, true, slice_index}
use Rattle.std.specs.Slots.{slots_items}
use Rattle.hibitset_sets.specs.BitSet.{has_member}
use Rattle.hibitset_sets.specs.Words.{word_of}
use Rattle.hibitset.proofs.shared.words.is_block_of.Given as goal

abbrev pub invariant-loop-place : goal.invariant-loop-place
invariant-loop-place l = l.same ≡ true → (other : ℕ) → 64 * l.block ≤ other → other < l.place → slice_index (slots_items l.closed.words) other ≡ word_of (has_member l.bits) 0 other
