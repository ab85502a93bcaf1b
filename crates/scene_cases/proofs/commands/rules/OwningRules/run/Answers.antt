use Rattle.std.proofs.Common.{ap}
use Rattle.scene_model.specs.Queues.{plain_commands}
use Rattle.scene_cases.specs.Owning.{part_of}
use Rattle.scene_cases.proofs.RestLemmas.{rest-runs}
use Rattle.scene_cases.proofs.commands.rules.OwningRules.run.Goals as goal

pub returns-clause-runs : goal.returns-clause-runs
returns-clause-runs g c = rest-runs _ _ _ (ap (plain_commands part_of) c.requires.empty)
