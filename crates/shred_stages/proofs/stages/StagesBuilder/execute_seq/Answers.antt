use Rattle.shred_stages.proofs.PlanLemmas.{told-in-any-order}
use Rattle.shred_stages.proofs.stages.StagesBuilder.execute_seq.Goals as goal

pub returns-clause-any_order : goal.returns-clause-any_order
returns-clause-any_order g c = told-in-any-order g.S.System.meets c.args.self.now c.run.new.self _ _ c.run.result c.told.result c.told.ensures c.run.ensures.any_order
