use Rattle.std.proofs.Common.{map}
use Rattle.shred_stages.specs.Views.{view_slots}
use Rattle.shred_stages.specs.Seats.{refusal_of}
use Rattle.shred_stages.proofs.ViewLemmas.{still-fits}
use Rattle.shred_stages.proofs.ApartLemmas.{places-leave}
use Rattle.shred_stages.proofs.view.run_group_in_view.Goals as goal

pub returns-clause-fits : goal.returns-clause-fits
returns-clause-fits g c =
    let view = c.run_places-outcome.new.view in
    let slots = g.W.Holder.slots in
    still-fits c.args.reads.now c.args.writes.now view.reads.now view.writes.now (slots c.args.world.now) (slots view.world.now) c.args.seat view.seat view.seated
    (places-leave g.S.System.meets c.args.group.now (map (λ one. one.system) c.args.staged.now) (view_slots c.args.reads.now c.args.writes.now (slots c.args.world.now) c.args.seat) (refusal_of c.run_places-outcome.result)
    (map (λ one. one.system) c.run_places-outcome.new.staged) (view_slots view.reads.now view.writes.now (slots view.world.now) view.seat) c.run_places-outcome.ensures.runs)
