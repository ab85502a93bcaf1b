use Rattle.shred_tests.proofs.ThreeLemmas.{in-order, other-way, runs-along}
use Rattle.shred_tests.proofs.threes.turn_in_either_order.Goals as goal

pub returns-clause-one : goal.returns-clause-one
returns-clause-one g c = runs-along _ _ in-order c.args.dispatcher.now.staging c.dispatch_par.new.self.staging _ _ c.dispatch_par.result c.requires.three.staging c.dispatch_par.ensures.any_order

pub returns-clause-other : goal.returns-clause-other
returns-clause-other g c = runs-along _ _ other-way c.args.dispatcher.now.staging c.dispatch_par.new.self.staging _ _ c.dispatch_par.result c.requires.three.staging c.dispatch_par.ensures.any_order
