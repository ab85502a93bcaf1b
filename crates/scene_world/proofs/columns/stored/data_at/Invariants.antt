use Rattle.std.proofs.Common.{◌≡◌, [], take, option_map}
use Rattle.scene_world.specs.Putting.{part_read, each_there}
use Rattle.scene_world.proofs.columns.stored.data_at.Given as goal

-- the parts of the entities so far
abbrev pub invariant-loop-entity : goal.invariant-loop-entity
invariant-loop-entity g l =
    each_there (option_map g.T.PlainPart.part_of) l.found.items
    ≡ each_there (λ index. option_map (part_read []) (option_map g.T.PlainPart.stored (g.T.Storage.UnprotectedStorage.part_at l.parts.inner index))) (take l.entity-index l.entities)
