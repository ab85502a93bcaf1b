use Rattle.std.proofs.Common.{rules}
use Rattle.hibitset.proofs.SharedLemmas.{plan-allowed, split-allowed}
use Rattle.hibitset.proofs.shared.BitSeat.split.Goals as goal

pub load-requires : goal.load-requires
load-requires c = (search rules, search rules, plan-allowed c.args.set.now.table.shared.key _ _ _ _ (search rules) (search rules))

pub split_seat-other-requires : goal.split_seat-other-requires
split_seat-other-requires c = (search rules, search rules, split-allowed c.args.set.now.table.shared.key _ _ (search rules) (search rules))
