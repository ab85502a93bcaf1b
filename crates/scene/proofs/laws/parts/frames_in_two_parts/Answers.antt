use Rattle.std.proofs.Common.{ap}
use Rattle.scene_document.specs.Texts.{text_of}
use Rattle.scene.proofs.PartLemmas.{reaches-then, parts-one}
use Rattle.scene.proofs.laws.parts.frames_in_two_parts.Goals as goal

pub returns-clause-chain : goal.returns-clause-chain
returns-clause-chain g c = λ limit frames count more scene mid after skips rest. reaches-then (g.R.DocumentRules.book c.args.rules.now) limit frames count more scene mid after skips rest

pub returns-clause-report : goal.returns-clause-report
returns-clause-report g c = λ limit whole first second all one other mid after end lone can_begin memory more parts ran none begins rest total. (parts-one (g.R.DocumentRules.book c.args.rules.now) (g.met.R.DocumentRules.declares_known c.args.rules.now) limit whole first second all one other mid after end lone can_begin memory more parts ran none begins rest total).0

pub returns-clause-text : goal.returns-clause-text
returns-clause-text g c = λ limit whole first second all one other mid after end lone can_begin memory more parts ran none begins rest total. ap (text_of (g.R.DocumentRules.book c.args.rules.now)) (parts-one (g.R.DocumentRules.book c.args.rules.now) (g.met.R.DocumentRules.declares_known c.args.rules.now) limit whole first second all one other mid after end lone can_begin memory more parts ran none begins rest total).1
