use Rattle.shred_stages.proofs.StagingLemmas.{staged-seated}
use Rattle.shred_stages.proofs.stages.stage_system.Goals as goal

pub returns-clause-seated : goal.returns-clause-seated
returns-clause-seated g c =
    staged-seated _ c.args.staged.now.items c.reserve.new.self.items c.push_reserved.new.self.items c.args.one c.args.adding c.args.planner.now c.add.new.self
    c.requires.number c.requires.seat c.requires.seated c.reserve.ensures.items c.push_reserved.ensures.items c.in-Ok-add.ensures.ok
