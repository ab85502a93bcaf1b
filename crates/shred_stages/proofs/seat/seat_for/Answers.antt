use Rattle.std.proofs.Common.{ap, ◌∙◌}
use Rattle.std.specs.FinMap.{get, get-empty}
use Rattle.std.proofs.lemmas.List.{get_or_default}
use Rattle.shred_stages.proofs.StagingLemmas.{seat-loop}
use Rattle.shred_stages.proofs.seat.seat_for.Goals as goal

pub loop-id-init : goal.loop-id-init
loop-id-init g c = λ q. ap (λ w. get w q) c.empty-seat.ensures ∙ get-empty _ q

pub loop-id-preserved : goal.loop-id-preserved
loop-id-preserved g c = seat-loop _ _ _ _ _ c.loop-id-test.true (get_or_default _ _ _ _ c.loop-id-test.true) c.loop-id.invariant c.in_ok-make_slot.ensures.ok
