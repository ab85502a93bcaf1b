use Rattle.specs_saveload.proofs.BearerLemmas.{retrieved-birth, retrieved-goes, retrieved-asks, refused-goes, unhad}
use Rattle.specs_saveload.proofs.RetrieveLemmas.{one-refused, one-retrieved}
use Rattle.specs_saveload.proofs.bearers.bearer.Goals as goal

pub returns-in-Ok-clause-births : goal.returns-in-Ok-clause-births
returns-in-Ok-clause-births g c = retrieved-birth _ _ _ _ _ _ _ _ _ _ _ _ c.in-Ok.ensures.ok

pub returns-in-Ok-clause-adds : goal.returns-in-Ok-clause-adds
returns-in-Ok-clause-adds g c = retrieved-asks _ _ _ _ _ _ _ _ _ _ g.M.SavedMarker.same_id g.met.M.SavedMarker.ids _ _ c.in-Ok.ensures.ok

pub returns-in-Ok-clause-keeps : goal.returns-in-Ok-clause-keeps
returns-in-Ok-clause-keeps g c = retrieved-goes _ _ _ _ _ _ _ _ _ _ _ _ c.in-Ok.ensures.ok

pub returns-clause-keeps : goal.returns-clause-keeps
returns-clause-keeps g c = refused-goes _ _ _ _ _ _ _ _ _ _ _ _ _ c.in-Err.ensures.refused

pub returns-clause-unborn : goal.returns-clause-unborn
returns-clause-unborn g c = unhad _ _ _ _ _ _ _ _ _ _ _ _ _ c.in-Err.ensures.refused

pub returns-in-Ok-clause-retrieves : goal.returns-in-Ok-clause-retrieves
returns-in-Ok-clause-retrieves g c = one-retrieved _ _ _ _ _ _ _ _ c.in-Ok.ensures.ok

pub returns-clause-leaves : goal.returns-clause-leaves
returns-clause-leaves g c = one-refused _ _ _ _ _ _ _ _ _ c.in-Err.ensures.refused
