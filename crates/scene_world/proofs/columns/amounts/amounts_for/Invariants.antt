use Rattle.std.proofs.Common.{◌≡◌, take}
use Rattle.std.specs.List.{filter_map}
use Rattle.scene_world.proofs.columns.amounts.amounts_for.Given as goal

-- what is taken for the ids so far
abbrev pub invariant-loop-place : goal.invariant-loop-place
invariant-loop-place g l = l.amounts.items ≡ filter_map (g.A.Amounts.amount l.of (g.W.Holder.slots l.view)) (take l.place l.ids)
