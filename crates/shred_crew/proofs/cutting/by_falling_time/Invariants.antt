use Rattle.std.proofs.Common.{◌≡◌, ◌<◌, ◌≤◌, length, map, take, vec_capacity}
use Rattle.std.specs.List.{All, enumerate_from}
use Rattle.shred_crew.proofs.cutting.by_falling_time.Given as goal

abbrev pub invariant-loop-number : goal.invariant-loop-number
invariant-loop-number l = record {
  entries : map (λ one. (one.1, one.0.0)) l.order.items ≡ enumerate_from 0 (take l.number l.times);
  range : All (λ one. one.1 < length l.times) l.order.items;
  room : length l.times ≤ vec_capacity l.order;
  few : length l.order.items ≡ l.number;
}
