use Rattle.scene_basics.specs.Systems.{system_named}
use Rattle.scene_basics.proofs.LawLemmas.{Makes-same}
use Rattle.scene_basics.proofs.laws.workers_and_store_do_not_show.Goals as goal

pub returns-clause-report : goal.returns-clause-report
returns-clause-report c = λ bounds input other one two first second text more. c.workers_and_store_change_nothing.ensures.report bounds input other one two first second text more (λ kind config facts is old sound here there. Makes-same facts.access (system_named kind) old here there)

pub returns-clause-text : goal.returns-clause-text
returns-clause-text c = λ bounds input other one two first second text more. c.workers_and_store_change_nothing.ensures.text bounds input other one two first second text more (λ kind config facts is old sound here there. Makes-same facts.access (system_named kind) old here there)
