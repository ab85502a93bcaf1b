use Rattle.shred_tests.proofs.ThreeLemmas.{dispatch-turns}
use Rattle.shred_tests.proofs.threes.turn.Goals as goal

pub returns : goal.returns
returns g c = record { turned = dispatch-turns _ _ c.args.dispatcher.now c.dispatch.new.self _ _ c.dispatch.result c.requires.three c.dispatch.ensures.any_order }
