use Rattle.specs_saveload.proofs.GiveLemmas.{on_ok_both, pair-given}
use Rattle.specs_saveload.proofs.deserialize.Tuple2DeserializeComponents.deserialize_entity.Goals as goal

pub returns-clause-gives : goal.returns-clause-gives
returns-clause-gives g c = on_ok_both c.load_two.result (λ one two alive. pair-given _ _ _ _ _ _ _ _ (one alive) (two alive)) c.load_two.ensures.gives c.load_two.ensures.gives_too
