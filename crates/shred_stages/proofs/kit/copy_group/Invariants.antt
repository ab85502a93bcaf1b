use Rattle.std.proofs.Common.{◌≡◌, ◌≤◌, length, take, vec_capacity}
use Rattle.shred_stages.proofs.kit.copy_group.Given as goal

abbrev pub invariant-loop-adding : goal.invariant-loop-adding
invariant-loop-adding l = record {
  copied : l.copy.items ≡ take l.adding-index l.group;
  few : length l.copy.items ≡ l.adding-index;
  room : length l.group ≤ vec_capacity l.copy;
}
