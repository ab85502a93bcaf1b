use Rattle.std.proofs.Common.{◌≡◌, ℕ, ◌-◌, length}
use Rattle.specs_layouts.specs.Slots.{slot_at}
use Rattle.specs_layouts.proofs.storages.vec.extend_slots.Given as goal

abbrev pub invariant-loop-slots : goal.invariant-loop-slots
invariant-loop-slots g l = (i : ℕ) → slot_at l.slots.items i ≡ slot_at l.initial.slots.items i

abbrev pub decreases-loop-slots : goal.decreases-loop-slots
decreases-loop-slots g l = l.len - length l.slots.items
