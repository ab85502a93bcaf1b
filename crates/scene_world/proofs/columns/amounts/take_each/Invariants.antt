use Rattle.std.proofs.Common.{take}
use Rattle.scene_world.specs.Columns.{column_in, events_in, emits_in, storing_by}
use Rattle.scene_world.specs.Held.{LessBy}
use Rattle.scene_world.proofs.columns.amounts.take_each.Given as goal

-- the amounts so far are taken
abbrev pub invariant-loop-place : goal.invariant-loop-place
invariant-loop-place g l =
    LessBy (column_in g.bound-7.part (storing_by g.T.Storage.UnprotectedStorage.part_at g.T.PlainPart.stored))
    (events_in g.bound-7.part (λ parts. g.T.Storage.UnprotectedStorage.events parts.inner)) (emits_in g.bound-7.part (λ parts. g.T.Storage.UnprotectedStorage.emits parts.inner)) (take l.place l.amounts)
    l.fn.value l.value
