use Rattle.std.proofs.Common.{subst}
use Rattle.shred_stages.specs.Seats.{refusal_of}
use Rattle.shred.specs.Dispatching.{Dispatching, DispatcherDisposes, local_refusal}
use Rattle.shred.proofs.dispatcher.Dispatcher.dispose.Goals as goal

pub returns : goal.returns
returns g c =
    let P : Dispatching g.row.S.Denot g.row.L.Denot → Type 0 = λ before. DispatcherDisposes g.S.System.disposes g.L.RunNow.disposes before c.told_first.result c.args.world.now c.dispose_locals-local.new.world in
    subst P c.self.view_is (refusal_of c.let_go-staged.result, local_refusal c.dispose_locals-local.result, c.let_go-staged.new.world, c.let_go-staged.ensures, c.dispose_locals-local.ensures, c.told_first.ensures)
