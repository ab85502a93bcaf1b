use Rattle.std.proofs.lemmas.Bool.{false≢true}
use Rattle.specs_entity.specs.Births.{living}
use Rattle.specs_entity.proofs.ListLemmas.{fault-not-killable}
use Rattle.specs_entity.proofs.entities_res.EntitiesRes.test_kill.Goals as goal

pub returns-in-Some-clause-succeeds : goal.returns-in-Some-clause-succeeds
returns-in-Some-clause-succeeds c = (λ h. absurd (false≢true h), λ can. absurd (fault-not-killable (living c.args.self.now) c.args.entities.now c.in-Some.place c.in-Some.ensures.value can))
