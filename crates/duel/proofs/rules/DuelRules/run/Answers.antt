use Rattle.std.proofs.Common.{sym, ap, subst}
use Rattle.shred_stages.specs.Views.{error_of}
use Rattle.scene_model.specs.Queues.{waiting, plain_commands}
use Rattle.scene_world.specs.Turns.{Runs}
use Rattle.duel.specs.declared.documents.DuelSystem.{DuelSystem}
use Rattle.duel.specs.Names.{part_of}
use Rattle.duel.specs.Documents.{meant}
use Rattle.duel.specs.Values.{kinds}
use Rattle.duel.proofs.BuryLemmas.{bury-runs}
use Rattle.duel.proofs.StrikeLemmas.{strike-runs}
use Rattle.duel.proofs.rules.DuelRules.run.Goals as goal

pub returns-in-Strike-clause-runs : goal.returns-in-Strike-clause-runs
returns-in-Strike-clause-runs g c =
    let seen = g.W.Holder.slots c.args.view.now in
    let left = g.W.Holder.slots c.strike.new.view in
    subst (λ (system : DuelSystem). Runs kinds meant system seen (error_of c.strike.result) system left (plain_commands part_of (waiting c.args.queue.now))) (sym c.in-Strike.is)
    (strike-runs seen left c.strike.result (plain_commands part_of (waiting c.args.queue.now)) (ap (plain_commands part_of) c.requires.empty) c.strike.ensures.ends)

pub returns-in-Bury-clause-runs : goal.returns-in-Bury-clause-runs
returns-in-Bury-clause-runs g c =
    let seen = g.W.Holder.slots c.args.view.now in
    subst (λ (system : DuelSystem). Runs kinds meant system seen (error_of c.bury.result) system seen (plain_commands part_of (waiting c.bury.new.queue))) (sym c.in-Bury.is)
    (bury-runs seen (plain_commands part_of (waiting c.bury.new.queue)) c.bury.result c.bury.ensures)
