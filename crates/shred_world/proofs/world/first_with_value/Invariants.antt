use Rattle.std.proofs.Common.{◌≡◌, drop}
use Rattle.shred_world.specs.Places.{first_valued}
use Rattle.shred_world.proofs.world.first_with_value.Given as goal

abbrev pub invariant-loop-id : goal.invariant-loop-id
invariant-loop-id g l = first_valued l.kind l.slots ≡ first_valued l.kind (drop l.id-index l.slots)
