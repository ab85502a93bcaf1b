use Rattle.std.proofs.Common.{ap}
use Rattle.scene_model.specs.Queues.{plain_commands}
use Rattle.scene_cases.specs.Drifting.{counting, drifting_places, drifting-apart}
use Rattle.scene_cases.proofs.TurnLemmas.{run-turns}
use Rattle.scene_cases.proofs.turns.rules.DriftingRules.run.Goals as goal

pub returns-clause-runs : goal.returns-clause-runs
returns-clause-runs g c =
    run-turns drifting_places drifting-apart _ _ _ c.drift_all.result c.drift_all.ensures.moves c.drift_all.ensures.refused _ (ap (plain_commands counting) c.requires.empty)
