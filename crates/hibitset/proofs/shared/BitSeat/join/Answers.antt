use Rattle.std.proofs.Common.{rules}
use Rattle.hibitset.proofs.SharedLemmas.{plan-allowed, join-allowed}
use Rattle.hibitset.proofs.shared.BitSeat.join.Goals as goal

pub join_seat-requires : goal.join_seat-requires
join_seat-requires c = (search rules, search rules, search rules, search rules, join-allowed c.args.set.now.table.shared.key _ _ _ _ (search rules) (search rules) (search rules))

pub load-requires : goal.load-requires
load-requires c = (search rules, search rules, plan-allowed c.args.set.now.table.shared.key _ _ _ _ (search rules) (search rules))
