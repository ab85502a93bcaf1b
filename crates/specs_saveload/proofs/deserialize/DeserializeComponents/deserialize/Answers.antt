use Rattle.std.proofs.lemmas.Result.{on_ok_weaker}
use Rattle.specs_saveload.proofs.StayLemmas.{load-clean, load-stays}
use Rattle.specs_saveload.proofs.StopLemmas.{refused-on}
use Rattle.specs_saveload.proofs.deserialize.DeserializeComponents.deserialize.Goals as goal

pub returns-clause-clean : goal.returns-clause-clean
returns-clause-clean g c = on_ok_weaker c.load_all.result (λ loads. load-clean _ _ _ _ g.M.SavedMarker.same_id g.met.M.SavedMarker.ids _ _ _ _ loads) c.load_all.ensures.retrieves

pub returns-clause-stays : goal.returns-clause-stays
returns-clause-stays g c = refused-on c.load_all.result _ _ (λ refused some. load-stays _ _ _ _ g.M.SavedMarker.same_id g.met.M.SavedMarker.ids _ _ _ _ _ _ _ some) c.load_all.ensures.leaves
