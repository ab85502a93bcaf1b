use Rattle.shred_world.proofs.SlotLemmas.{sorted_none}
use Rattle.shred_world.proofs.world.World.empty.Goals as goal

pub invariant_of-result : goal.invariant_of-result
invariant_of-result g c = sorted_none c.new.result.items c.new.ensures.items
