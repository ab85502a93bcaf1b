use Rattle.scene_basics.specs.Systems.{system_named}
use Rattle.scene_basics.proofs.LawLemmas.{Makes-same}
use Rattle.scene_basics.proofs.laws.a_document_has_one_outcome.Goals as goal

pub returns-clause-report : goal.returns-clause-report
returns-clause-report c = λ limit draft one other scene after. c.one_outcome.ensures.report limit draft one other scene after (λ kind config facts is old sound first second. Makes-same facts.access (system_named kind) old first second)

pub returns-clause-scene : goal.returns-clause-scene
returns-clause-scene c = λ limit draft one other scene after. c.one_outcome.ensures.scene limit draft one other scene after (λ kind config facts is old sound first second. Makes-same facts.access (system_named kind) old first second)
