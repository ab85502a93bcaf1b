use Rattle.std.proofs.Common.{◌≡◌, ℕ, ◌+◌, ◌/◌, ◌%◌, ◌&&◌, ◌||◌, nat_lt, get_or}
use Rattle.std.specs.Slots.{slots_items}
use Rattle.std.specs.FinSet as set
use Rattle.hibitset_sets.specs.Bits.{has_bit}
use Rattle.specs_entity.specs.Accepting.{IsSameBut}
use Rattle.specs_entity.proofs.shared_entities.SharedEntities.settle.Given as goal

abbrev pub invariant-loop-place : goal.invariant-loop-place
invariant-loop-place l = record {
  same : IsSameBut l.initial.entities l.entities;
  deletions : (index : ℕ) → set.contains l.entities.deletions index ≡ ((nat_lt (index / 64) l.place && has_bit (get_or (slots_items l.closed.words) (l.start + index / 64) 0) (index % 64)) || set.contains l.initial.entities.deletions index);
}
