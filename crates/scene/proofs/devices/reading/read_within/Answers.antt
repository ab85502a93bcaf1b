use Rattle.std.proofs.Common.{arith}
use Rattle.scene.proofs.DeviceLemmas.{GivesAtLeast-chunk}
use Rattle.scene.proofs.devices.reading.read_within.Goals as goal

-- the chunk for which no room was found was given too
pub returns-then-is_err-clause-memory : goal.returns-then-is_err-clause-memory
returns-then-is_err-clause-memory g c = λ _.
    GivesAtLeast-chunk _ _ _ _ _ 1 c.loop.invariant.consumed c.in-Ok.ensures.bytes.0 (omega (arith, c.in-Ok.ensures.bound.1))

pub returns-then-is_err-clause-given : goal.returns-then-is_err-clause-given
returns-then-is_err-clause-given g c =
    GivesAtLeast-chunk _ _ _ _ _ 0 c.loop.invariant.consumed c.in-Ok.ensures.bytes.0 (omega arith)
