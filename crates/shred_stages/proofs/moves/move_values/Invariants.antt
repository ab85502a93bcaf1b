use Rattle.std.proofs.Common.{◌≡◌, take}
use Rattle.shred_world.specs.declared.resource_id.ResourceId.{ResourceId}
use Rattle.shred_stages.specs.Moves.{left_of, moved_to}
use Rattle.shred_stages.proofs.moves.move_values.Given as goal

abbrev pub invariant-loop-id : goal.invariant-loop-id
invariant-loop-id g l = record {
  from : (q : ResourceId) → g.A.Holder.slots l.from q ≡ left_of (take l.id-index l.ids) (g.A.Holder.slots l.initial.from) q;
  to : (q : ResourceId) → g.B.Holder.slots l.to q ≡ moved_to (take l.id-index l.ids) (g.A.Holder.slots l.initial.from) (g.B.Holder.slots l.initial.to) q;
}
