use Rattle.shred_world.proofs.CallerLemmas.{slot-is-out}
use Rattle.specs_world.proofs.ResourceLemmas.{taken-and-put}
use Rattle.specs.proofs.taking.borrow.Goals as goal

pub put_back-requires : goal.put_back-requires
put_back-requires g c = record { is_out = slot-is-out c.args.world.now c.take_raw.new.self c.new-id.result c.in_ok-take_raw.ensures.out }

pub returns-in-Err-clause-none : goal.returns-in-Err-clause-none
returns-in-Err-clause-none g c =
    taken-and-put c.args.world.now c.take_raw.new.self c.put_back.new.self c.new-id.result _ _ c.in_ok-take_raw.ensures.value c.in_ok-take_raw.ensures.out c.in-Err.ensures.handed_back c.put_back.ensures
