use Rattle.std.proofs.Common.{◌≡◌, ℕ, ◌*◌, ◌≤◌, get_or}
use Rattle.std.specs.Slots.{slots_items}
use Rattle.hibitset_sets.specs.BitSet.{has_member}
use Rattle.hibitset.proofs.BlockLemmas.{in_block}
use Rattle.hibitset.proofs.shared.words.put_block.Given as goal

abbrev pub invariant-loop-place : goal.invariant-loop-place
invariant-loop-place l = record {
  members : (index : ℕ) → has_member l.bits index ≡ in_block (λ number. get_or (slots_items l.closed.words) number 0) (has_member l.initial.bits) l.block l.place index;
  room : l.bits.room ≡ l.initial.bits.room;
  from : 64 * l.block ≤ l.place;
}
