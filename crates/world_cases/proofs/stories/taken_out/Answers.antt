use Rattle.std.proofs.Common.{ap}
use Rattle.shred_world.specs.ResourceIds.{id_of}
use Rattle.world_cases.proofs.stories.taken_out.Goals as goal

pub give_back-requires : goal.give_back-requires
give_back-requires c = record { can = ap (λ held. held (id_of 2 0)) c.in_ok-bundle.ensures.out }

pub give_back-requires-2 : goal.give_back-requires-2
give_back-requires-2 c = record { can = ap (λ held. held (id_of 2 0)) c.in_ok-again.ensures.out }
