use Rattle.std.proofs.Common.{◌≡◌, ◌+◌, ℕ, length, slice_get}
use Rattle.scene_model.specs.Slots.{filled}
use Rattle.scene.proofs.snapshot.lengthen.lengthen.Given as goal

-- so many empty slots came
abbrev pub invariant-loop : goal.invariant-loop
invariant-loop g l = record {
  same : (index : ℕ) → filled (slice_get l.slots.items index) ≡ filled (slice_get l.fn.slots.items index);
  length : length l.slots.items ≡ length l.fn.slots.items + l.counter;
}
