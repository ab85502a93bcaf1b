use Rattle.shred_tests.proofs.OneLemmas.{dispatch-moves}
use Rattle.shred_tests.proofs.ones.turn_one.Goals as goal

pub returns : goal.returns
returns g c = record { moved = dispatch-moves _ _ c.args.dispatcher.now c.dispatch.new.self _ _ c.dispatch.result c.requires.one c.dispatch.ensures.runs }
