use Rattle.std.proofs.Common.{OnOk, subst, sym}
use denote.Exit.{yes}
use denote.Param.Send.{param_sync, arg_sync}
use Rattle.simulation.specs.Colonies.{GrowsBoth}
use Rattle.simulation.proofs.ColonyLemmas.{dispatch-grows}
use Rattle.simulation.proofs.CrossingLemmas.{held_sync}
use Rattle.simulation.proofs.colonies.runs.grow_both.Goals.{in-Ok, in-Err}
use Rattle.simulation.proofs.colonies.runs.grow_both.Goals as goal

pub dispatch-requires-sync-V : goal.dispatch-requires-sync-V
dispatch-requires-sync-V c arg κs within = param_sync 0 _ (arg_sync _ yes _ held_sync)

pub returns : goal.returns
returns g c = elim c.match-dispatch.branch [
  | in-Ok w ↦ subst (λ result. OnOk result (GrowsBoth c.args.world.now c.dispatch.new.world)) (sym w.result-is)
      (dispatch-grows _ _ c.args.dispatcher.now c.dispatch.new.self c.args.world.now c.dispatch.new.world w.in-Ok.field-0 c.requires w.in-Ok.ensures.any_order)
  | in-Err w ↦ subst (λ result. OnOk result (GrowsBoth c.args.world.now c.dispatch.new.world)) (sym w.result-is) tt
]
