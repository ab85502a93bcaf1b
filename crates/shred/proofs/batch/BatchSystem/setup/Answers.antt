use Rattle.std.proofs.Common.{true, false, refl, subst}
use Rattle.std.specs.Prelude.{is_ok}
use Rattle.shred.specs.Batches.{Batched, BatchSetsUp}
use Rattle.shred.proofs.batch.BatchSystem.setup.Goals as goal

pub returns-in-Ok-clause-meets : goal.returns-in-Ok-clause-meets
returns-in-Ok-clause-meets g c =
    let P : Batched g.row.S.Denot g.row.C.Denot → Type 0 = λ before. BatchSetsUp g.C.BatchController.sets_up g.S.System.sets_up before (is_ok c.setup-in-Ok.result) c.args.world.now
    (record { controller = c.setup.new.self; staging = c.setup-in-Ok.new.self }) c.setup-in-Ok.new.world in
    subst P c.self.view_is (true, c.setup.new.world, c.in-Ok.ensures.meets, c.setup-in-Ok.ensures.plan, c.setup-in-Ok.ensures.sets_up)

pub returns-in-Err-clause-meets : goal.returns-in-Err-clause-meets
returns-in-Err-clause-meets g c =
    let P : Batched g.row.S.Denot g.row.C.Denot → Type 0 = λ before. BatchSetsUp g.C.BatchController.sets_up g.S.System.sets_up before false c.args.world.now
    (record { controller = c.setup.new.self; staging = c.self.inside.stages }) c.setup.new.world in
    subst P c.self.view_is (false, c.setup.new.world, c.in-Err.ensures.meets, refl, (refl, refl, refl))
