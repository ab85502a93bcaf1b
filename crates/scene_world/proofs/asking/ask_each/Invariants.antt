use Rattle.std.proofs.Common.{◌≡◌, ◌++◌, take}
use Rattle.std.specs.List.{filter_map}
use Rattle.scene_model.specs.Queues.{waiting, plain_commands}
use Rattle.scene_world.proofs.asking.ask_each.Given as goal

-- what was there, and what is asked for the ids so far
abbrev pub invariant-loop-place : goal.invariant-loop-place
invariant-loop-place g l = plain_commands g.A.Asks.part_of (waiting l.queue)
    ≡ plain_commands g.A.Asks.part_of (waiting l.fn.queue) ++ filter_map (g.A.Asks.asked l.asks (g.W.Holder.slots l.view)) (take l.place l.ids)
