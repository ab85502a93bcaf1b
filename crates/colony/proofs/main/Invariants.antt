use Rattle.colony.specs.Frames.{IsColony}
use Rattle.colony.proofs.main.Given as goal

-- a frame leaves the dispatcher as it was
abbrev pub invariant-loop : goal.invariant-loop
invariant-loop g l = IsColony l.systems
