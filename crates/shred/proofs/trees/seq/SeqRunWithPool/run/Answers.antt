use Rattle.std.proofs.Common.{Some, None, refl, subst}
use Rattle.shred_stages.specs.Views.{error_of}
use Rattle.shred.specs.Trees.{Halves, SeqRuns}
use Rattle.shred.proofs.trees.seq.SeqRunWithPool.run.Goals as goal

pub returns-in-Ok-clause-meets : goal.returns-in-Ok-clause-meets
returns-in-Ok-clause-meets g c =
    let P : Halves g.row.H.Denot g.row.T.Denot → Type 0 = λ before. SeqRuns g.H.RunWithPool.meets g.T.RunWithPool.meets before (g.W.Holder.slots c.args.world.now) (error_of c.run-in-Ok.result)
    (record { head = c.run.new.self; tail = c.run-in-Ok.new.self }) (g.W.Holder.slots c.run-in-Ok.new.world) in
    subst P c.self.view_is (g.W.Holder.slots c.run.new.world, None, c.in-Ok.ensures.meets, c.run-in-Ok.ensures.meets)

pub returns-in-Err-clause-meets : goal.returns-in-Err-clause-meets
returns-in-Err-clause-meets g c =
    let P : Halves g.row.H.Denot g.row.T.Denot → Type 0 = λ before. SeqRuns g.H.RunWithPool.meets g.T.RunWithPool.meets before (g.W.Holder.slots c.args.world.now) (Some c.in-Err.stop)
    (record { head = c.run.new.self; tail = c.self.inside.tail }) (g.W.Holder.slots c.run.new.world) in
    subst P c.self.view_is (g.W.Holder.slots c.run.new.world, Some c.in-Err.stop, c.in-Err.ensures.meets, (refl, refl, refl))
