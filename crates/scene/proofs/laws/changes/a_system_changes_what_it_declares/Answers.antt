use Rattle.scene.proofs.SystemChangeLemmas.{turn-changes, turns-change}
use Rattle.scene.proofs.laws.changes.a_system_changes_what_it_declares.Goals as goal

pub returns-clause-turn : goal.returns-clause-turn
returns-clause-turn g c = turn-changes (g.R.DocumentRules.book c.args.rules.now)

pub returns-clause-turns : goal.returns-clause-turns
returns-clause-turns g c = turns-change (g.R.DocumentRules.book c.args.rules.now)
