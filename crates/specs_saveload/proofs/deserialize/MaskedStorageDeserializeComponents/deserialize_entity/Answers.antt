use Rattle.specs_saveload.proofs.RetrieveLemmas.{all-retrieved, if-refused}
use Rattle.specs_saveload.proofs.deserialize.MaskedStorageDeserializeComponents.deserialize_entity.Goals as goal

pub returns-in_err-settle-clause-leaves : goal.returns-in_err-settle-clause-leaves
returns-in_err-settle-clause-leaves g c = if-refused c.from_residual-in_err-settle.result _ (λ error. all-retrieved _ _ _ _ _ error _ _ _ c.in_ok-part.ensures.retrieves)
