use Rattle.std.proofs.Common.{◌≡◌, ◌≤◌}
use Rattle.hibitset_sets.specs.Average.{ones_below}
use Rattle.hibitset_sets.proofs.average_ones.average_ones.Given as goal

abbrev pub invariant-loop-place : goal.invariant-loop-place
invariant-loop-place l = l.ones ≡ ones_below l.n l.place

abbrev pub invariant-loop-at : goal.invariant-loop-at
invariant-loop-at l = record { counted : l.below ≡ ones_below l.n l.at; upto : l.below ≤ l.half }
