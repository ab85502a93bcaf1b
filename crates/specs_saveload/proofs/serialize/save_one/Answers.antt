use Rattle.std.proofs.Common.{is_ok, ap}
use Rattle.specs_saveload.proofs.SaveLemmas.{saved-next}
use Rattle.specs_saveload.proofs.serialize.save_one.Goals as goal
use Rattle.specs_saveload.proofs.serialize.save_one.Goals.{in-Ok-push, in-Err-push}

pub returns-clause-ok : goal.returns-clause-ok
returns-clause-ok g c =
    elim c.match-push.branch [
      | in-Ok-push w ↦ rw w.result-is (saved-next _ _ _ _ (is_ok c.push.result) c.in-Ok.ensures.ok c.push.ensures.items (ap is_ok w.in-Ok-push.is))
      | in-Err-push w ↦ rw w.result-is tt
    ]
