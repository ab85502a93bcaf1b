use Rattle.std.proofs.Common.{Option, sym, subst}
use Rattle.shred_stages.specs.declared.stop.Stop.{Stop}
use Rattle.shred.specs.Trees.{TurnedRuns}
use Rattle.shred.proofs.TreeOrderLemmas.{turned-runs}
use Rattle.shred.proofs.trees.laws.par_runs_either_way.Goals as goal

pub returns : goal.returns
returns g c tree w refused after w_after apart (between, first, later, head, tail, told) =
    let P : Option Stop → Type 0 = λ refused. TurnedRuns g.H.RunWithPool.meets g.T.RunWithPool.meets tree w refused after w_after in
    subst P (sym told) (turned-runs g.H.RunWithPool.meets g.T.RunWithPool.meets g.H.RunWithPool.read_list g.H.RunWithPool.write_list g.T.RunWithPool.read_list g.T.RunWithPool.write_list
    g.met.H.RunWithPool.stays_within g.met.T.RunWithPool.stays_within g.met.H.RunWithPool.sees_what_it_declares g.met.T.RunWithPool.sees_what_it_declares
    tree apart w between w_after first later after.head after.tail head tail)
