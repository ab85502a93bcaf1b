use Rattle.shred_world.proofs.CallerLemmas.{slot-is-out}
use Rattle.shred_tests.proofs.worlds.take_and_put_back.Goals as goal

pub put_back-requires : goal.put_back-requires
put_back-requires c = record { is_out = slot-is-out _ _ _ c.in-Some.ensures.out }
