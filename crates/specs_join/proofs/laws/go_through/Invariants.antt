use Rattle.std.proofs.Common.{◌≡◌, ◌+◌, length}
use Rattle.specs_join.specs.Joining.{items_left}
use Rattle.specs_join.proofs.laws.go_through.Given as goal

abbrev pub invariant-loop : goal.invariant-loop
invariant-loop g l = record { counted : l.steps + l.walk.unread ≡ l.initial.steps + l.initial.walk.unread }

abbrev pub decreases-loop : goal.decreases-loop
decreases-loop g l = length (items_left g.J.Join.value_at l.walk)
