use Rattle.std.proofs.Common.{sym, subst, refl}
use Rattle.shred.specs.Lendings.{Lent, HasWorld}
use Rattle.shred.proofs.async_dispatcher.AsyncDispatcher.world.Goals as goal

pub returns-in-Ok : goal.returns-in-Ok
returns-in-Ok g c =
    let has : HasWorld c.wait_without_tl.new.self c.world_at_hand.result.now = subst (λ owned. HasWorld owned c.world_at_hand.result.now) c.self.view_is c.world_at_hand.ensures in
    let lent : Lent g.S.System.meets g.L.RunNow.meets c.args.self.now c.world_at_hand.result.now c.wait_without_tl.new.self = record { joins = c.in-Ok.ensures.joins; has = has } in
    ((refl, (λ _. tt), subst (Lent g.S.System.meets g.L.RunNow.meets c.args.self.now c.world_at_hand.result.now) (sym c.self.view_is) lent), record { left = tt; world = (c.wait_without_tl.new.self, lent) })
