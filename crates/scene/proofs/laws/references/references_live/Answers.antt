use Rattle.scene.proofs.ReferenceLemmas.{accepts-live, reaches-live}
use Rattle.scene.proofs.laws.references.references_live.Goals as goal

pub returns-clause-frame : goal.returns-clause-frame
returns-clause-frame g c = λ limit frame scene after places. accepts-live (g.R.DocumentRules.book c.args.rules.now) limit frame scene after places

pub returns-clause-frames : goal.returns-clause-frames
returns-clause-frames g c = λ limit frames count scene after skips. reaches-live (g.R.DocumentRules.book c.args.rules.now) limit frames count scene after skips

pub returns-clause-each : goal.returns-clause-each
returns-clause-each g c = λ scene stand live id kind held alive found. live id kind held (stand id kind held alive found) alive found
