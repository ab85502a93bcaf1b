use Rattle.specs.proofs.CallerLemmas.{accepted}
use Rattle.colony.proofs.systems.AskingBundleChangeValueAsked.change.Goals as goal

pub returns-clause-becomes : goal.returns-clause-becomes
returns-clause-becomes g c none = accepted c.exec.result _ c.map_err.ensures.variant none c.exec.ensures.ok
