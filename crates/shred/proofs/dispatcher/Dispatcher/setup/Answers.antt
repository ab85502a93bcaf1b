use Rattle.std.proofs.Common.{true, false, refl, subst}
use Rattle.std.specs.Prelude.{is_ok}
use Rattle.shred.specs.Dispatching.{Dispatching, DispatcherSetsUp}
use Rattle.shred.proofs.dispatcher.Dispatcher.setup.Goals as goal

pub returns-in-Ok : goal.returns-in-Ok
returns-in-Ok g c =
    let P : Dispatching g.row.S.Denot g.row.L.Denot → Type 0 = λ before. DispatcherSetsUp g.S.System.sets_up g.L.RunNow.sets_up before (is_ok c.set_up_list.result) c.args.world.now
    (record { staging = c.setup.new.self; locals = c.set_up_list.new.locals.items; workers = c.self.inside.workers }) c.set_up_list.new.world in
    subst P c.self.view_is (true, c.setup.new.world, c.in-Ok.ensures.sets_up, c.in-Ok.ensures.plan, refl, c.set_up_list.ensures)

pub returns-in-Err : goal.returns-in-Err
returns-in-Err g c =
    let P : Dispatching g.row.S.Denot g.row.L.Denot → Type 0 = λ before. DispatcherSetsUp g.S.System.sets_up g.L.RunNow.sets_up before false c.args.world.now
    (record { staging = c.setup.new.self; locals = c.self.inside.locals.items; workers = c.self.inside.workers }) c.setup.new.world in
    subst P c.self.view_is (false, c.setup.new.world, c.in-Err.ensures.sets_up, c.in-Err.ensures.plan, refl, (refl, refl, refl))
