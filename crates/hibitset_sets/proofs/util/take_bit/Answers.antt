use Rattle.std.proofs.Common.{arith}
use Rattle.hibitset_sets.proofs.UniteLemmas.{takes-bit}
use Rattle.hibitset_sets.proofs.util.take_bit.Goals as goal

pub returns : goal.returns
returns c = let some = c.requires in takes-bit c.args.word (omega (arith, some)) c.ranges.word.fits
