-- Ids are compared as they are tested to be one.
use Rattle.std.proofs.Common.{◌≡◌, rules}
use Rattle.std.proofs.Math.Path.{fun_ext}
use Rattle.shred_world.specs.declared.resource_id.ResourceId.{ResourceId}
use Rattle.shred_world.specs.ResourceIds.{same_id}
use Rattle.shred_world.specs.contracts.resource_id.ResourceIdPartialEq.TheImpl.{ghosts}

-- they are, for each two ids
same-pair : (one other : ResourceId) → ghosts.eq one other ≡ same_id one other
same-pair one other = search rules

-- the two tests are the same
pub same-ids : ghosts.eq ≡ same_id
same-ids = fun_ext (λ one. fun_ext (λ other. same-pair one other))
