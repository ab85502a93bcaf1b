use Rattle.std.proofs.Common.{[], ◌∷◌}
use Rattle.std.proofs.lemmas.Result.{IfErr-weaker, on_ok_weaker}
use Rattle.specs_saveload.specs.Known.{RefusesBearers}
use Rattle.specs_saveload.proofs.LoadLemmas.{refused-left}
use Rattle.specs_saveload.proofs.FindLemmas.{both-load, first-refuses, first-stops, front-refuses, front-stops, if-err-by, second-refuses, second-stops}
use Rattle.specs_saveload.proofs.RetrieveLemmas.{bear-front, bear-shown, data-before, data-in-front, entry-shown, loaded-all, loaded-some, loaded-stops}
use Rattle.specs_saveload.proofs.GiveLemmas.{give-before, give-in-front, give-until}
use Rattle.specs_saveload.proofs.deserialize.load_all.Goals as goal

pub returns-in-Ok-clause-ok : goal.returns-in-Ok-clause-ok
returns-in-Ok-clause-ok g c =
    on_ok_weaker c.load_each.result (both-load _ _ _ g.met.M.SavedMarker.by_id _ _ _ _ c.as_slice.ensures.value _ _ _ _ _ c.in-Ok.ensures.ok) c.load_each.ensures.ok

pub returns-in-Ok-clause-err : goal.returns-in-Ok-clause-err
returns-in-Ok-clause-err g c =
    IfErr-weaker c.load_each.result _ _ (λ refused stops. second-stops _ _ _ g.met.M.SavedMarker.by_id _ _ _ _ c.as_slice.ensures.value _ _ _ _ _ c.in-Ok.ensures.ok _ stops) c.load_each.ensures.err

pub returns-in-Ok-clause-refused : goal.returns-in-Ok-clause-refused
returns-in-Ok-clause-refused g c =
    if-err-by c.load_each.result _ _ _ (λ refused stops why. second-refuses _ _ _ g.met.M.SavedMarker.by_id _ g.S.DeserializeComponents.loaded _ _ c.as_slice.ensures.value _ _ _ _ _ c.in-Ok.ensures.ok _ stops (RefusesBearers g.A.MarkerAllocator.refuses g.M.Marker.id_of) _ why)
    c.load_each.ensures.err
    c.load_each.ensures.refused

pub returns-in-Ok-load_each-clause-err : goal.returns-in-Ok-load_each-clause-err
returns-in-Ok-load_each-clause-err g c =
    first-stops _ _ _ g.met.M.SavedMarker.by_id _ _ _ _ c.as_slice.ensures.value _ _ _ _ _ _ _ c.truncate.ensures.items c.in-Err.ensures.err c.in-Ok-load_each.ensures.ok

pub returns-in-Ok-load_each-clause-refused : goal.returns-in-Ok-load_each-clause-refused
returns-in-Ok-load_each-clause-refused g c =
    first-refuses _ _ _ g.met.M.SavedMarker.by_id _ _ _ _ c.as_slice.ensures.value _ _ _ _ _ _ _ c.truncate.ensures.items c.in-Err.ensures.err c.in-Ok-load_each.ensures.ok (RefusesBearers g.A.MarkerAllocator.refuses g.M.Marker.id_of) _
    (λ marker others. refused-left g.A.MarkerAllocator.refuses g.M.Marker.id_of c.find_all.new.entities c.find_all.new.allocator (marker ∷ []) others c.in-Err.refused.error)
    c.in-Err.ensures.refused

pub returns-clause-err : goal.returns-clause-err
returns-clause-err g c =
    front-stops _ _ _ g.met.M.SavedMarker.by_id _ _ _ _ c.as_slice.ensures.value _ _ _ _ _ _ _ c.truncate.ensures.items c.in-Err.ensures.err _ c.in-Err-load_each.ensures.err

pub returns-clause-refused : goal.returns-clause-refused
returns-clause-refused g c =
    front-refuses _ _ _ g.met.M.SavedMarker.by_id _ _ _ _ c.as_slice.ensures.value _ _ _ _ _ _ _ c.truncate.ensures.items c.in-Err.ensures.err _ c.in-Err-load_each.ensures.err (RefusesBearers g.A.MarkerAllocator.refuses g.M.Marker.id_of) _ c.in-Err-load_each.ensures.refused

pub load_each-requires : goal.load_each-requires
load_each-requires g c = record { bearers = bear-shown _ _ _ _ _ c.as_slice.ensures.value c.as_slice-in-Ok.ensures.value c.in-Ok.ensures.bearers }

pub load_each-requires-in-Err : goal.load_each-requires-in-Err
load_each-requires-in-Err g c =
    record { bearers = bear-front _ _ _ _ _ _ _ c.as_slice.ensures.value c.truncate.ensures.items c.as_slice-in-Err.ensures.value c.in-Err.ensures.bearers_before }

pub returns-in-Ok-clause-retrieves : goal.returns-in-Ok-clause-retrieves
returns-in-Ok-clause-retrieves g c =
    on_ok_weaker c.load_each.result (loaded-all _ _ _ _ _ _ _ c.as_slice.ensures.value _ _ _ c.in-Ok.ensures.retrieves) c.load_each.ensures.retrieves

pub returns-in-Ok-clause-leaves : goal.returns-in-Ok-clause-leaves
returns-in-Ok-clause-leaves g c =
    IfErr-weaker c.load_each.result _ _ (λ refused some. loaded-stops _ _ _ _ _ _ _ c.as_slice.ensures.value _ _ _ _ _ _ c.in-Ok.ensures.retrieves some) c.load_each.ensures.leaves

pub returns-in-Ok-load_each-clause-leaves : goal.returns-in-Ok-load_each-clause-leaves
returns-in-Ok-load_each-clause-leaves g c =
    loaded-some _ _ _ _ _ _ _ c.as_slice.ensures.value _ _ _ _ _ _ _ c.in-Err.ensures.leaves
    (data-before _ _ _ _ _ _ _ _ _ _ _ _ _ (entry-shown _ _ _ _ c.as_slice.ensures.value c.in-Err.ensures.refused.here) c.truncate.ensures.items c.in-Ok-load_each.ensures.retrieves)

pub returns-clause-leaves : goal.returns-clause-leaves
returns-clause-leaves g c =
    loaded-some _ _ _ _ _ _ _ c.as_slice.ensures.value _ _ _ _ _ _ _ c.in-Err.ensures.leaves
    (data-in-front _ _ _ _ _ _ _ _ _ _ _ _ _ c.truncate.ensures.items c.in-Err-load_each.ensures.leaves)

pub returns-in-Ok-clause-stops : goal.returns-in-Ok-clause-stops
returns-in-Ok-clause-stops g c = IfErr-weaker c.load_each.result _ _ (λ refused then. give-until _ _ _ _ _ _ _ _ then) c.load_each.ensures.stops

pub returns-in-Ok-load_each-clause-stops : goal.returns-in-Ok-load_each-clause-stops
returns-in-Ok-load_each-clause-stops g c = give-before _ _ _ _ _ _ _ _ _ c.truncate.ensures.items c.in-Ok-load_each.ensures.gives

pub returns-clause-stops : goal.returns-clause-stops
returns-clause-stops g c = give-in-front _ _ _ _ _ _ _ _ _ _ c.truncate.ensures.items c.in-Err-load_each.ensures.stops
