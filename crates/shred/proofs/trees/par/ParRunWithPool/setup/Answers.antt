use Rattle.std.proofs.Common.{true, false, refl, subst}
use Rattle.std.specs.Prelude.{is_ok}
use Rattle.shred.specs.Trees.{Halves, BothSetUp}
use Rattle.shred.proofs.trees.par.ParRunWithPool.setup.Goals as goal

pub returns-in-Ok-clause-meets : goal.returns-in-Ok-clause-meets
returns-in-Ok-clause-meets g c =
    let P : Halves g.row.H.Denot g.row.T.Denot → Type 0 = λ before. BothSetUp g.H.RunWithPool.sets_up g.T.RunWithPool.sets_up before (is_ok c.setup-in-Ok.result) c.args.world.now
    (record { head = c.setup.new.self; tail = c.setup-in-Ok.new.self }) c.setup-in-Ok.new.world in
    subst P c.self.view_is (true, c.setup.new.world, c.in-Ok.ensures.meets, c.setup-in-Ok.ensures.meets)

pub returns-in-Err-clause-meets : goal.returns-in-Err-clause-meets
returns-in-Err-clause-meets g c =
    let P : Halves g.row.H.Denot g.row.T.Denot → Type 0 = λ before. BothSetUp g.H.RunWithPool.sets_up g.T.RunWithPool.sets_up before false c.args.world.now
    (record { head = c.setup.new.self; tail = c.self.inside.tail }) c.setup.new.world in
    subst P c.self.view_is (false, c.setup.new.world, c.in-Err.ensures.meets, (refl, refl, refl))
