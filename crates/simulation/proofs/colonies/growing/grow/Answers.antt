use Rattle.simulation.proofs.ColonyLemmas.{has-grown}
use Rattle.simulation.proofs.colonies.growing.grow.Goals as goal

pub returns-in-Ok-clause-grown : goal.returns-in-Ok-clause-grown
returns-in-Ok-clause-grown c =
    has-grown c.args.seat.now c.create.new.self c.create-2.new.self c.delete.new.self c.in-Ok-Ok.first c.in-Ok-Ok._second c.in-Ok-Ok.ensures.phase c.in-Ok-Ok.ensures'.phase c.in-Ok.ensures.phase
    c.in-Ok-Ok.ensures.birth c.in-Ok-Ok.ensures'.birth c.in-Ok.ensures.births c.in-Ok.ensures.ok
