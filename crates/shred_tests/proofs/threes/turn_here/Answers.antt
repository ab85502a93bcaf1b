use Rattle.shred_tests.proofs.ThreeLemmas.{runs-turn}
use Rattle.shred_tests.proofs.threes.turn_here.Goals as goal

pub returns : goal.returns
returns g c = record { turned = runs-turn _ c.args.dispatcher.now.staging c.dispatch_seq.new.self.staging _ _ c.dispatch_seq.result c.requires.three.staging c.dispatch_seq.ensures.runs.runs }
