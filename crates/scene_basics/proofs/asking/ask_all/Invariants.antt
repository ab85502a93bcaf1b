use Rattle.std.proofs.Common.{◌≡◌, take}
use Rattle.std.specs.List.{filter_map}
use Rattle.scene_model.specs.Queues.{waiting, plain_commands}
use Rattle.scene_basics.specs.Numbers.{part_of}
use Rattle.scene_basics.specs.Asks.{asked_for}
use Rattle.scene_basics.specs.Asked.{lent_for}
use Rattle.scene_basics.proofs.asking.ask_all.Given as goal

abbrev pub invariant-loop-place : goal.invariant-loop-place
invariant-loop-place g l = plain_commands part_of (waiting l.queue) ≡ filter_map (asked_for l.ask (lent_for l.ask (g.W.Holder.slots l.view))) (take l.place l.ids)
