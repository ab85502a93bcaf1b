use Rattle.hibitset_sets.specs.BitSetEq.{same_members-is, is-same_members}
use Rattle.hibitset_sets.proofs.laws.equal_sets_hold_each_other.Goals as goal

pub returns-clause-same : goal.returns-clause-same
returns-clause-same c = (same_members-is c.args.one.now c.args.other.now, is-same_members c.args.one.now c.args.other.now)
