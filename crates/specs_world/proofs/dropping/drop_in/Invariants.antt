use Rattle.std.proofs.Common.{take}
use Rattle.specs_layouts.specs.Drops.{ids_of}
use Rattle.specs_world.specs.Dropping.{DropsIn}
use Rattle.specs_world.proofs.dropping.drop_in.Given as goal

abbrev pub invariant-loop-kind : goal.invariant-loop-kind
invariant-loop-kind g l =
    record {
      dropped : DropsIn g.V.AnyStorage.drops (take l.kind-index l.kinds) (ids_of l.entities) l.fn.world l.world;
    }
