use Rattle.std.proofs.Common.{◌≡◌, map, take, length}
use Rattle.std.specs.List.{range_with_len}
use Rattle.shred_crew.specs.Deals.{lists}
use Rattle.shred_crew.specs.Cuts.{groups_of, IsShared}
use Rattle.shred_crew.proofs.cutting.groups_of_each.Given as goal

abbrev pub invariant-loop-group : goal.invariant-loop-group
invariant-loop-group l = record {
  value : lists l.made.items ≡ map (groups_of (take l.group l.chosen)) (range_with_len 0 l.workers);
  shared : IsShared l.group (lists l.made.items);
  count : length l.made.items ≡ l.workers;
}
