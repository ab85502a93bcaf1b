use Rattle.shred_world.proofs.PlaceLemmas.{starts_at_place, starts_at_gap}
use Rattle.shred_world.proofs.world.start_of.Goals as goal

pub returns-in-Ok : goal.returns-in-Ok
returns-in-Ok g c = starts_at_place c.args.slots.now c.requires.sorted c.args.id c.in-Ok.place c.in-Ok.ensures.found

pub returns-in-Err : goal.returns-in-Err
returns-in-Err g c = starts_at_gap c.args.slots.now c.args.id c.in-Err.place c.in-Err.ensures.absent
