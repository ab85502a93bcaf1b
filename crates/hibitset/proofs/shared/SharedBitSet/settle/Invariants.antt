use Rattle.std.proofs.Common.{◌≡◌, ℕ, ◌≤◌, get_or}
use Rattle.std.specs.Slots.{slots_items}
use Rattle.hibitset_sets.specs.BitSet.{has_member}
use Rattle.hibitset.proofs.BlockLemmas.{in_blocks}
use Rattle.hibitset.proofs.shared.SharedBitSet.settle.Given as goal

abbrev pub invariant-loop-block : goal.invariant-loop-block
invariant-loop-block l = record {
  members : (index : ℕ) → has_member l.bits index ≡ in_blocks (λ number. get_or (slots_items l.closed.words) number 0) (has_member l.initial.bits) l.block index;
  room : 16777216 ≤ l.bits.room;
}
