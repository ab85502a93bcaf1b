use Rattle.hibitset_sets.proofs.UniteLemmas.{bit-below}
use Rattle.hibitset_sets.proofs.assign.bits_end.Goals as goal

pub returns-clause-above : goal.returns-clause-above
returns-clause-above c = bit-below c.args.word c.ranges.word.fits
