use Rattle.std.proofs.Common.{sym, ◌∙◌}
use Rattle.shred_plan.proofs.PositionLemmas.{position-read, position-read-none}
use Rattle.shred_plan.proofs.stage.Stage.place_of_wanted.Goals as goal

pub returns-then-branch : goal.returns-then-branch
returns-then-branch g c = position-read _ _ _ _ _ c.groups-group-items.ensures c.group-item.is c.loop-place-test.true (sym c.in_ok-may_complete.ensures ∙ c.if-branch.true) c.loop-place.invariant

pub returns : goal.returns
returns g c = position-read-none _ _ _ _ c.groups-group-items.ensures c.loop-place-test.false c.loop-place.invariant
