use Rattle.std.proofs.Common.{◌≡◌, ◌<◌, ◌≤◌, ◌*◌, length, map, drop}
use Rattle.std.specs.List.{All}
use Rattle.shred_crew.specs.Cuts.{went_to}
use Rattle.shred_crew.proofs.cutting.send_each.Given as goal

abbrev pub invariant-loop-time : goal.invariant-loop-time
invariant-loop-time l = record {
  on : went_to l.sums.items (map (λ one. (one.1, one.0.0)) (drop l.time-index l.order)) l.workers.items ≡ went_to l.initial.sums.items (map (λ one. (one.1, one.0.0)) l.order) l.initial.workers.items;
  small : All (λ sum. sum ≤ l.time-index * 4294967295) l.sums.items;
  count : length l.sums.items ≡ length l.initial.sums.items;
  long : length l.workers.items ≡ length l.initial.workers.items;
  known : All (λ worker. worker < length l.initial.sums.items) l.workers.items;
}
