use Rattle.std.proofs.Common.{◌≡◌, ◌≤◌, length, take, vec_capacity}
use Rattle.shred_stages.proofs.kit.make_kits.Given as goal

abbrev pub invariant-loop-group : goal.invariant-loop-group
invariant-loop-group g l = record {
  made : l.kits.items ≡ take l.group-index l.stage;
  few : length l.kits.items ≡ l.group-index;
  room : length l.stage ≤ vec_capacity l.kits;
}
