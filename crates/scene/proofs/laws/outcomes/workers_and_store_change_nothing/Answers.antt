use Rattle.scene.proofs.OneOutcomeLemmas.{runs-as-one}
use Rattle.scene.proofs.laws.outcomes.workers_and_store_change_nothing.Goals as goal

pub returns-clause-report : goal.returns-clause-report
returns-clause-report g c = λ bounds input other one two first second text more lone memory memory_too is_one is_two same run again. (runs-as-one (g.R.DocumentRules.book c.args.rules.now) (g.met.R.DocumentRules.declares_known c.args.rules.now) bounds input other one two first second text more lone memory memory_too is_one is_two same run again).0

pub returns-clause-text : goal.returns-clause-text
returns-clause-text g c = λ bounds input other one two first second text more lone memory memory_too is_one is_two same run again. (runs-as-one (g.R.DocumentRules.book c.args.rules.now) (g.met.R.DocumentRules.declares_known c.args.rules.now) bounds input other one two first second text more lone memory memory_too is_one is_two same run again).1
