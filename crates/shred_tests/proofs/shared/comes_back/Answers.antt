use Rattle.shred_world.proofs.CallerLemmas.{slot-is-out}
use Rattle.shred_tests.proofs.shared.comes_back.Goals as goal

-- the value was taken out of its slot
pub give_back_to-requires-clause-is_out : goal.give_back_to-requires-clause-is_out
give_back_to-requires-clause-is_out g c = slot-is-out _ _ _ (c.in-Ok.ensures.left c.if-not-taken.false)
