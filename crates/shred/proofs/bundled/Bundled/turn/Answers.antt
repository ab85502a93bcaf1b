use Rattle.std.proofs.Common.{is_some, refl, ap, inl, inr, subst}
use Rattle.shred_world.proofs.AnyBundleLemmas.{changed-can_give, changed-leaves, same-leaves}
use Rattle.shred_stages.specs.Views.{error_of}
use Rattle.shred.specs.Bundling.{ChangesBundle}
use Rattle.shred.proofs.BundleLemmas.{bundle-changed}
use Rattle.shred.proofs.bundled.Bundled.turn.Goals as goal

pub change-outcome-requires : goal.change-outcome-requires
change-outcome-requires g c = record {
  fetched = record { seen = g.W.Holder.slots c.args.view.now; fits_seen = c.in-Ok.ensures.fits; is_left = c.in-Ok.ensures.ok };
}

pub give_back-requires : goal.give_back-requires
give_back-requires g c = record {
  can = changed-can_give g.met.D.SystemData.lawful _ c.change-outcome.new.bundle (g.W.Holder.slots c.args.view.now) _ c.in-Ok.ensures.fits c.change-outcome.ensures.alike c.in-Ok.ensures.ok;
}

pub returns-in-Ok-clause-meets : goal.returns-in-Ok-clause-meets
returns-in-Ok-clause-meets g c =
    let P : g.row.C.Denot → Type 0 = λ change. ChangesBundle g.D.SystemData.left g.D.SystemData.fits g.D.SystemData.given g.C.BundleChange.becomes change (g.W.Holder.slots c.args.view.now)
    (error_of c.change-outcome.result) c.change-outcome.new.self (g.W.Holder.slots c.give_back.new.holder) in
    inr (subst P c.self.view_is
    (bundle-changed g.D.SystemData.left g.D.SystemData.fits g.D.SystemData.given g.C.BundleChange.becomes _ _ (g.W.Holder.slots c.args.view.now) _ _ _ c.in-Ok.bundle c.change-outcome.new.bundle
    c.in-Ok.ensures.ok c.in-Ok.ensures.fits c.change-outcome.ensures.becomes c.give_back.ensures))

pub returns-in-Ok-clause-leaves : goal.returns-in-Ok-clause-leaves
returns-in-Ok-clause-leaves g c =
    changed-leaves g.met.D.SystemData.lawful _ c.change-outcome.new.bundle (g.W.Holder.slots c.args.view.now) _ c.in-Ok.ensures.fits c.change-outcome.ensures.alike c.in-Ok.ensures.ok _ c.give_back.ensures

pub returns-in-Err-clause-meets : goal.returns-in-Err-clause-meets
returns-in-Err-clause-meets g c = inl (record { wanting = ap is_some c.in-Err.ensures.missing; refuses = refl; stays = refl; same = c.in-Err.ensures.err })

pub returns-in-Err-clause-leaves : goal.returns-in-Err-clause-leaves
returns-in-Err-clause-leaves g c = same-leaves _ _ c.in-Err.ensures.err
