-- A system alone in a dispatcher.
use Rattle.std.specs.Prelude.{◌≡◌, [], ◌∷◌}
use Rattle.shred_stages.specs.Staging.{Staging}
use Rattle.shred.specs.Dispatching.{Dispatching}
use Rattle.shred.specs.Batches.{Batched}
use Rattle.shred.specs.declared.work.Work.{Work}
use Rattle.shred.specs.declared.work.Work.TheVariants.{System}
use Rattle.shred.specs.declared.nothing.NoBatch.{NoBatch}
use Rattle.shred.specs.declared.nothing.NoLocal.{NoLocal}
use Rattle.shred_tests.specs.declared.chores.Chore.{Chore}
use Rattle.shred_tests.specs.declared.chores.Chore.TheVariants.{Moving}
use Rattle.shred_tests.specs.Threes.{moving}

abbrev pub one_staged : Staging (Work Chore (Batched Chore NoBatch))
one_staged = record { planning = record { first = 0; stages = ((moving ∷ []) ∷ []) ∷ [] }; systems = System Moving ∷ [] }

-- a dispatcher of the one, and of nothing else
pub record IsOne (dispatching : Dispatching (Work Chore (Batched Chore NoBatch)) NoLocal) : Type 0 where
  pub staging : dispatching.staging ≡ one_staged
  pub locals : dispatching.locals ≡ []
