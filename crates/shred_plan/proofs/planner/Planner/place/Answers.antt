use Rattle.shred_plan.proofs.FirstLemmas.{first-placed, first-fits}
use Rattle.shred_plan.proofs.planner.Planner.place.Goals as goal

pub returns-then-branch-clause-value : goal.returns-then-branch-clause-value
returns-then-branch-clause-value g c =
    first-placed g.K.PartialEq.eq c.args.self.now.first c.args.adding.now c.args.self.now.stages c.in_ok-place.place c.in_ok-place.ensures

pub returns-then-branch-clause-fits : goal.returns-then-branch-clause-fits
returns-then-branch-clause-fits g c =
    first-fits g.K.PartialEq.eq c.args.self.now.first c.args.adding.now c.args.self.now.stages c.in_ok-place.place c.in_ok-place.ensures
