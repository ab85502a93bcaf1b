use Rattle.std.proofs.Common.{◌≡◌, ℕ, ◌-◌, ◌<◌, ◌≤◌, length, max, IfSome}
use Rattle.std.specs.List.{slice_get}
use Rattle.specs_layouts.proofs.storages.default_vec.extend_defaults.Given as goal

abbrev pub invariant-loop-slots : goal.invariant-loop-slots
invariant-loop-slots g l = record {
  kept : (i : ℕ) → i < length l.initial.slots.items → slice_get l.slots.items i ≡ slice_get l.initial.slots.items i;
  filled : (i : ℕ) → length l.initial.slots.items ≤ i → IfSome (slice_get l.slots.items i) g.T.Default.is_default;
  longer : length l.initial.slots.items ≤ length l.slots.items;
  upto : length l.slots.items ≤ max (length l.initial.slots.items) l.len;
}

abbrev pub decreases-loop-slots : goal.decreases-loop-slots
decreases-loop-slots g l = l.len - length l.slots.items
