use Rattle.std.proofs.Common.{ℕ, Option, [], ◌∷◌, sym, ap, subst, ◌∙◌}
use Rattle.std.specs.Option.{option_map}
use Rattle.shred_world.specs.Bundles.{holding_of}
use Rattle.shred_stages.specs.declared.stop.Stop.{Stop}
use Rattle.shred_stages.specs.Views.{view_slots, error_of}
use Rattle.shred_stages.specs.Packs.{PlacesInView}
use Rattle.shred_stages.proofs.SingleLemmas.{single-runs}
use Rattle.shred_stages.proofs.ViewLemmas.{still-fits}
use Rattle.shred_stages.proofs.pack_run.run_single.Goals as goal

pub returns-clause-runs : goal.returns-clause-runs
returns-clause-runs g c =
    let meets = g.S.System.meets in
    let one = c.args.adding.now in
    let seen = view_slots c.args.reads.now c.args.writes.now (holding_of c.args.world.now) c.args.seat in
    let stop = error_of c.run_in_view-outcome.result.0 in
    let left = c.run_in_view-outcome.new.system in
    let seat = c.run_in_view-outcome.result.1 in
    let P : Option (ℕ × Stop) → Type 0 = λ told. PlacesInView meets (one ∷ []) (c.args.one.now.system ∷ []) seen told (left ∷ []) seat in
    subst P (sym (c.refused_by.ensures ∙ ap (λ number. option_map (λ why. (number, why)) stop) c.number.ensures))
    (single-runs meets one c.args.reads.now c.args.writes.now (holding_of c.args.world.now) c.args.seat c.args.one.now.system stop left seat c.requires.reads c.requires.writes c.run_in_view-outcome.ensures)

pub returns-clause-fits : goal.returns-clause-fits
returns-clause-fits g c =
    let ran = c.run_in_view-outcome.ensures in
    still-fits c.args.reads.now c.args.writes.now ran.reads_after ran.writes_after (holding_of c.args.world.now) ran.world_after c.args.seat c.run_in_view-outcome.result.1 ran.fits ran.leaves
