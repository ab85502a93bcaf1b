use Rattle.std.proofs.Common.{ap, inr, is_ok, refl}
use Rattle.specs_saveload.proofs.FindLemmas.{finding-goes-on, finding-refuses, finding-stops, none-found}
use Rattle.specs_saveload.proofs.RetrieveLemmas.{all-retrieved, bear-kept, bear-next, bear-still, entries-next, entries-stop, none-bear}
use Rattle.specs_saveload.proofs.deserialize.find_all.Goals as goal

pub loop-place-init : goal.loop-place-init
loop-place-init g c = record {
  finds = none-found g.A.MarkerAllocator.noted g.M.Storage.UnprotectedStorage.part_at g.M.Marker.id_of g.met.M.SavedMarker.by_id _;
  bear = none-bear _ _ _ refl c.requires.none;
  each = record { steps = refl };
}

pub loop-place-preserved : goal.loop-place-preserved
loop-place-preserved g c = record {
  finds = finding-goes-on _ _ _ g.met.M.SavedMarker.by_id c.args.list.now c.loop-place.place c.index-list-place.result c.loop-place-test.true c.index-list-place.is _ _ _ c.loop-place.invariant.finds c.find_one.ensures.keeps _ c.in-Ok.ensures.adds c.in-Ok.ensures.ok c.in-Ok.ensures.births;
  bear = bear-next _ _ c.find_one.ensures.keeps.keeps c.args.list.now c.loop-place.place c.index-list-place.result _ _ c.in-Ok.entity (is_ok c.push.result) c.loop-place-test.true c.index-list-place.is c.loop-place.invariant.bear c.in-Ok.ensures.ok c.push.ensures.items (ap is_ok c.in-Ok-push.is);
  each = entries-next _ _ _ _ c.args.list.now c.loop-place.place c.index-list-place.result _ _ _ c.loop-place-test.true c.index-list-place.is c.loop-place.invariant.each c.in-Ok.ensures.retrieves;
}

pub returns-in-Err-clause-err : goal.returns-in-Err-clause-err
returns-in-Err-clause-err g c =
    finding-stops _ _ _ g.met.M.SavedMarker.by_id c.args.list.now c.loop-place.place c.index-list-place.result c.loop-place-test.true c.index-list-place.is _ _ _ c.loop-place.invariant.finds c.find_one.ensures.keeps

pub returns-in-Err-clause-bearers_before : goal.returns-in-Err-clause-bearers_before
returns-in-Err-clause-bearers_before g c = bear-still _ _ c.find_one.ensures.keeps.keeps _ _ c.loop-place.invariant.bear

pub returns-in-Err-clause-leaves : goal.returns-in-Err-clause-leaves
returns-in-Err-clause-leaves g c =
    entries-stop _ _ _ _ _ _ c.args.list.now c.loop-place.place c.index-list-place.result _ _ _ c.loop-place-test.true c.index-list-place.is c.loop-place.invariant.each c.in-Err.ensures.leaves

pub returns-in-Err-clause-refused : goal.returns-in-Err-clause-refused
returns-in-Err-clause-refused g c =
    finding-refuses _ _ _ g.met.M.SavedMarker.by_id c.args.list.now c.loop-place.place c.index-list-place.result c.loop-place-test.true c.index-list-place.is _ _ _ c.loop-place.invariant.finds c.find_one.ensures.keeps _ _ c.in-Err.ensures.refused

pub returns-in-Err-push-clause-err : goal.returns-in-Err-push-clause-err
returns-in-Err-push-clause-err g c =
    finding-stops _ _ _ g.met.M.SavedMarker.by_id c.args.list.now c.loop-place.place c.index-list-place.result c.loop-place-test.true c.index-list-place.is _ _ _ c.loop-place.invariant.finds c.find_one.ensures.keeps

pub returns-in-Err-push-clause-bearers_before : goal.returns-in-Err-push-clause-bearers_before
returns-in-Err-push-clause-bearers_before g c =
    bear-kept _ _ c.find_one.ensures.keeps.keeps _ _ _ c.in-Ok.entity (is_ok c.push.result) c.loop-place.invariant.bear c.push.ensures.items (ap is_ok c.in-Err-push.is)

pub returns-in-Err-push-clause-leaves : goal.returns-in-Err-push-clause-leaves
returns-in-Err-push-clause-leaves g c =
    entries-stop _ _ _ _ _ _ c.args.list.now c.loop-place.place c.index-list-place.result _ _ _ c.loop-place-test.true c.index-list-place.is c.loop-place.invariant.each (all-retrieved _ _ _ _ _ _ _ _ _ c.in-Ok.ensures.retrieves)

pub returns-in-Err-push-clause-refused : goal.returns-in-Err-push-clause-refused
returns-in-Err-push-clause-refused g c =
    finding-refuses _ _ _ g.met.M.SavedMarker.by_id c.args.list.now c.loop-place.place c.index-list-place.result c.loop-place-test.true c.index-list-place.is _ _ _ c.loop-place.invariant.finds c.find_one.ensures.keeps _ _ (inr (inr refl))
