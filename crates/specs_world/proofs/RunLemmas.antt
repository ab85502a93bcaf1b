-- Jobs that are still to run, at most so many.
use Rattle.std.proofs.Common.{◌≡◌, ◌≢◌, ◌≤◌, ◌+◌, ℕ, suc, arith, Option, Some, None, List, inl, inr, Result, Ok, Err, refl, sym, subst}
use Rattle.shred_world.specs.Worlds.{Slots}
use Rattle.specs_entity.specs.declared.errors.Error.{Error}
use Rattle.specs_entity.specs.declared.errors.Error.TheVariants as variant
use Rattle.specs_world.specs.Resources.{Place}
use Rattle.specs_world.specs.declared.maintained.Maintained.{Maintained}
use Rattle.specs_world.specs.Queues.{NoneWaits, RunsNext, JobsRun, counted, none_ran}

module _ {V J S : Type 0} (runs : J → Option Error → Slots V → Slots V → Type 0) (at : Place V (List J)) (shared : Place V S) (limit : ℕ) (start : Slots V) where
  -- what so many jobs come to from here is what all come to from the start
  abbrev pub AreToRun : ℕ → Maintained → Slots V → Type 0
  AreToRun left counts now = (result : Result Maintained Error) (after : Slots V) → JobsRun runs at shared left counts now result after → JobsRun runs at shared limit none_ran start result after

  module _ (left : ℕ) (counts : Maintained) (now : Slots V) (to_run : AreToRun left counts now) where
    module _ (rest : ℕ) (more : left ≡ suc rest) where
      -- where no job waits all is over
      pub run-over : NoneWaits at now → JobsRun runs at shared limit none_ran start (Ok counts) now
      run-over none = to_run (Ok counts) now (subst (λ left. JobsRun runs at shared left counts now (Ok counts) now) (sym more) (inl (refl, none, refl)))

      module _ (refused : Option Error) (ran : Slots V) (next : RunsNext runs at shared refused now ran) where
        -- where a job found no memory all is over
        pub run-memory : refused ≡ Some variant.Memory → JobsRun runs at shared limit none_ran start (Err variant.Memory) ran
        run-memory memory =
            to_run (Err variant.Memory) ran
            (subst (λ left. JobsRun runs at shared left counts now (Err variant.Memory) ran) (sym more) (inr (inl (refl, subst (λ refused. RunsNext runs at shared refused now ran) memory next))))

        -- else the rest is to run
        pub run-on : refused ≢ Some variant.Memory → (counts' : Maintained) → counts' ≡ counted refused counts → AreToRun rest counts' ran
        run-on other counts' is result after rest_runs =
            to_run result after
            (subst (λ left. JobsRun runs at shared left counts now result after) (sym more)
            (inr (inr (refused, ran, other, next, subst (λ counts. JobsRun runs at shared rest counts ran result after) is rest_runs))))

-- one more job is one more, and at most one more failed
pub counted-jobs : (refused : Option Error) (counts : Maintained) → (counted refused counts).jobs ≡ counts.jobs + 1
counted-jobs None counts = refl
counted-jobs (Some error) counts = refl

pub counted-failed : (refused : Option Error) (counts : Maintained) → (counted refused counts).failed ≤ counts.failed + 1
counted-failed None counts = omega arith
counted-failed (Some error) counts = omega arith
