use Rattle.std.proofs.Common.{ap, ◌∙◌}
use Rattle.std.specs.FinSet as set
use Rattle.hibitset_sets.proofs.CallerLemmas.{contains-without}
use Rattle.hibitset.proofs.atomic.AtomicBitSetDrainableBitSet.remove.Goals as goal

pub returns-clause-members : goal.returns-clause-members
returns-clause-members c = λ j. ap (λ s. set.contains s j) c.remove.ensures.members ∙ contains-without c.args.self.now.members c.args.i j
