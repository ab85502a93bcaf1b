use Rattle.shred_tests.proofs.ThreeLemmas.{alone-moves}
use Rattle.shred_tests.proofs.threes.move_alone.Goals as goal

pub returns : goal.returns
returns g c = alone-moves _ _ c.run_alone.new.system c.run_alone.result c.run_alone.ensures.runs
