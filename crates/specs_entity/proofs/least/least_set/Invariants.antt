use Rattle.std.proofs.Common.{◌≡◌, ◌≤◌, ◌-◌, ℕ, Bool, true, eqb, length, take}
use Rattle.std.specs.List.{list_any}
use Rattle.std.specs.FinSet as set
use Rattle.specs_entity.specs.Closures.{IsClosed}
use Rattle.specs_entity.specs.Holders.{Holds, Tells}
use Rattle.specs_entity.proofs.least.least_set.Given as goal

abbrev pub invariant-loop-root : goal.invariant-loop-root
invariant-loop-root l = record {
  tells : Tells l.members.items l.marked.members;
  room : l.initial.marked.room ≤ l.marked.room;
  has : (index : ℕ) → set.contains l.marked.members index ≡ list_any (λ root. eqb index root) (take l.root-index l.roots);
}

abbrev pub invariant-loop-at : goal.invariant-loop-at
invariant-loop-at l = record {
  within : l.at ≤ length l.members.items;
  tells : Tells l.members.items l.marked.members;
  room : l.initial.marked.room ≤ l.marked.room;
  roots : (index : ℕ) → list_any (λ root. eqb index root) l.roots ≡ true → set.contains l.marked.members index ≡ true;
  held : (holder target : ℕ) → Holds l.holders.links.items holder target → list_any (eqb target) (take l.at l.members.items) ≡ true → set.contains l.marked.members holder ≡ true;
  least : (others : ℕ → Bool) → IsClosed (λ index. list_any (λ root. eqb index root) l.roots) (Holds l.holders.links.items) others
      → (index : ℕ) → set.contains l.marked.members index ≡ true → others index ≡ true;
}

abbrev pub decreases-loop-at : goal.decreases-loop-at
decreases-loop-at l = 16777216 - l.at
