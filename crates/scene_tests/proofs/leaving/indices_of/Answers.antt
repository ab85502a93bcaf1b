use Rattle.std.proofs.Common.{rules}
use Rattle.hibitset_sets.specs.BitSet.{has_member}
use Rattle.scene_basics.specs.Values.{whole_at}
use Rattle.scene_tests.proofs.LeavingLemmas.{walked}
use Rattle.scene_tests.proofs.leaving.indices_of.Goals as goal

pub returns : goal.returns
returns c = walked (has_member c.args.numbers.now.mask) (whole_at c.args.numbers.now) c.loop-index.indices.items (search rules) c.mask-mask.ensures.agrees c.mask-mask.ensures.range
