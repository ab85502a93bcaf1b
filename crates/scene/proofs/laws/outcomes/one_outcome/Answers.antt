use Rattle.scene.proofs.OneOutcomeLemmas.{ran-one}
use Rattle.scene.proofs.laws.outcomes.one_outcome.Goals as goal

pub returns-clause-report : goal.returns-clause-report
returns-clause-report g c = λ limit draft one other scene after lone begins memory more ran again. (ran-one (g.R.DocumentRules.book c.args.rules.now) (g.met.R.DocumentRules.declares_known c.args.rules.now) limit draft one other scene after lone begins memory more ran again).0

pub returns-clause-scene : goal.returns-clause-scene
returns-clause-scene g c = λ limit draft one other scene after lone begins memory more ran again. (ran-one (g.R.DocumentRules.book c.args.rules.now) (g.met.R.DocumentRules.declares_known c.args.rules.now) limit draft one other scene after lone begins memory more ran again).1
