use Rattle.std.proofs.Common.{◌≡◌, ℕ, true, drop, eqb}
use Rattle.std.specs.FinSet as set
use Rattle.std.specs.List.{list_any}
use Rattle.specs_entity.proofs.least.unmark_each.Given as goal

abbrev pub invariant-loop-index : goal.invariant-loop-index
invariant-loop-index l = record {
  left : (other : ℕ) → set.contains l.marked.members other ≡ true → list_any (eqb other) (drop l.index-index l.members) ≡ true;
  room : l.marked.room ≡ l.initial.marked.room;
}
