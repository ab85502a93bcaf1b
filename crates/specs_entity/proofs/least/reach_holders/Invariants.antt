use Rattle.std.proofs.Common.{◌≡◌, ◌≤◌, ◌<◌, ◌-◌, ◌⊎◌, ℕ, true, length}
use Rattle.std.specs.FinSet as set
use Rattle.specs_entity.specs.Holders.{Holds, Tells, GoesOn, link_at}
use Rattle.specs_entity.proofs.least.reach_holders.Given as goal

abbrev pub invariant-loop-end : goal.invariant-loop-end
invariant-loop-end l = record {
  within : l.end ≤ length l.holders.links.items;
  here : 0 < l.end → (link_at l.holders.links.items (l.end - 1)).target ≡ l.target;
  tells : Tells l.members.items l.marked.members;
  room : l.initial.marked.room ≤ l.marked.room;
  longer : GoesOn l.initial.members.items l.members.items;
  keeps : (index : ℕ) → set.contains l.initial.marked.members index ≡ true → set.contains l.marked.members index ≡ true;
  only : (index : ℕ) → set.contains l.marked.members index ≡ true → (set.contains l.initial.marked.members index ≡ true) ⊎ Holds l.holders.links.items index l.target;
  passed : (place : ℕ) → l.end ≤ place → place < length l.holders.links.items → (link_at l.holders.links.items place).target ≡ l.target
      → set.contains l.marked.members (link_at l.holders.links.items place).holder ≡ true;
}

abbrev pub decreases-loop-end : goal.decreases-loop-end
decreases-loop-end l = l.end
