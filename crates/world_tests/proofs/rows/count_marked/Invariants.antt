use Rattle.std.proofs.Common.{◌≤◌}
use Rattle.world_tests.proofs.rows.count_marked.Given as goal

-- as many as were gone through, at most
abbrev pub invariant-loop-entity : goal.invariant-loop-entity
invariant-loop-entity l = l.count ≤ l.entity-index
