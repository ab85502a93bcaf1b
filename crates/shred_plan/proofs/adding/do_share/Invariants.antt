use Rattle.std.proofs.Common.{◌≡◌, false, take}
use Rattle.std.specs.List.{list_any}
use Rattle.shred_plan.proofs.adding.do_share.Given as goal

abbrev pub invariant-loop-id : goal.invariant-loop-id
invariant-loop-id g l = list_any (λ id. list_any (g.K.PartialEq.eq id) l.others) (take l.id-index l.ids) ≡ false
