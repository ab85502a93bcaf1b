-- What a step makes of a cell, and so any list of steps.
use Rattle.std.proofs.Common.{◌≡◌, refl, ℕ, zero, suc, ◌+◌, ◌-◌, ◌≤◌, ◌⊎◌, inl, inr, Bool, cond, Option, Some, None, List, [], ◌∷◌, unwrap_or, nat_lt, IfSome, arith, if◌then◌else◌}
use Rattle.std.proofs.lemmas.Grind.{common_steps}
use Rattle.std.proofs.lemmas.List.Sums.{sum_by-cons}
use Rattle.std.specs.Prelude.{count_by}
use Rattle.std.specs.Option.{option_map_or}
use Rattle.shred.specs.declared.cells.cell_core.State.{State}
use Rattle.shred.specs.declared.cells.cell_core.State.TheVariants.{Free, Read, Written}
use Rattle.shred.specs.declared.cells.cell_core.Step.{Step}
use Rattle.shred.specs.declared.cells.cell_core.Step.TheVariants.{BorrowForReading, ReturnFromReading, BorrowForWriting, ReturnFromWriting}
use Rattle.shred.specs.Cells.{most_readers, IsState, with_readers, after, after_all, accepted, is_reader_coming, is_reader_going, is_writer_coming, is_writer_going, readers_of, writers_of, IsKept}

-- a number of readers up to the greatest is a state
pub with_readers-is-state : (n : ℕ) → n ≤ most_readers → IsState (with_readers n)
with_readers-is-state zero few = tt
with_readers-is-state (suc n) few = (omega arith, few)

-- so is one more where there are fewer
pub one_more-is-state : (n : ℕ) → IfSome (if nat_lt n most_readers then Some (Read (n + 1)) else None) IsState
one_more-is-state n = grind (arith, common_steps)

-- the state after an accepted step is one of a cell
pub after-is-state : (s : State) (x : Step) → IsState s → IfSome (after s x) IsState
after-is-state Free BorrowForReading is = (omega arith, omega arith)
after-is-state Free ReturnFromReading is = tt
after-is-state Free BorrowForWriting is = tt
after-is-state Free ReturnFromWriting is = tt
after-is-state (Read n) BorrowForReading is = one_more-is-state n
after-is-state (Read n) ReturnFromReading (some, few) = with_readers-is-state (n - 1) (omega (arith, few))
after-is-state (Read n) BorrowForWriting is = tt
after-is-state (Read n) ReturnFromWriting is = tt
after-is-state Written BorrowForReading is = tt
after-is-state Written ReturnFromReading is = tt
after-is-state Written BorrowForWriting is = tt
after-is-state Written ReturnFromWriting is = tt

-- a cell stays a cell, whether a step is accepted or not
unwrapped-is-state : (o : Option State) (s : State) → IsState s → IfSome o IsState → IsState (unwrap_or o s)
unwrapped-is-state None s is next = is
unwrapped-is-state (Some t) s is next = next

-- a cell stays a cell after all of the steps
pub after_all-is-state : (s : State) (xs : List Step) → IsState s → IsState (after_all s xs)
after_all-is-state s [] is = is
after_all-is-state s (x ∷ xs) is = after_all-is-state (unwrap_or (after s x) s) xs (unwrapped-is-state (after s x) s is (after-is-state s x is))

-- with one reader less
with_readers-readers : (n : ℕ) → readers_of (with_readers n) ≡ n
with_readers-readers zero = refl
with_readers-readers (suc n) = refl

with_readers-writers : (n : ℕ) → writers_of (with_readers n) ≡ 0
with_readers-writers zero = refl
with_readers-writers (suc n) = refl

-- a count that each accepted step keeps is kept by all of them
module _ (there : State → ℕ) (comes goes : Step → Bool) where
  abbrev Balances : State → Step → State → Type 0
  Balances s x t = there s + cond (comes x) 1 0 ≡ cond (goes x) 1 0 + there t

  abbrev IsBalanced : State → List Step → Type 0
  IsBalanced s xs = there s + count_by comes (accepted s xs) ≡ count_by goes (accepted s xs) + there (after_all s xs)

  -- at one step, accepted or not
  at-step : (s : State) (x : Step) (xs : List Step) (o : Option State) → IsState s → IfSome o IsState → IfSome o (Balances s x)
      → ((t : State) → IsState t → IsBalanced t xs)
      → there s + count_by comes (option_map_or (λ t. x ∷ accepted t xs) o (accepted s xs)) ≡ count_by goes (option_map_or (λ t. x ∷ accepted t xs) o (accepted s xs)) + there (after_all (unwrap_or o s) xs)
  at-step s x xs None is next one later = later s is
  at-step s x xs (Some t) is next one later =
      let below : IsBalanced t xs = later t next in
      let came : count_by comes (x ∷ accepted t xs) ≡ cond (comes x) 1 0 + count_by comes (accepted t xs) = sum_by-cons (λ y. cond (comes y) 1 0) x (accepted t xs) in
      let went : count_by goes (x ∷ accepted t xs) ≡ cond (goes x) 1 0 + count_by goes (accepted t xs) = sum_by-cons (λ y. cond (goes y) 1 0) x (accepted t xs) in
      let whole : there s + count_by comes (x ∷ accepted t xs) ≡ count_by goes (x ∷ accepted t xs) + there (after_all t xs) = omega (arith, one, below, came, went) in
      whole

  pub balance : ((s : State) (x : Step) → IsState s → IfSome (after s x) (Balances s x)) → (s : State) (xs : List Step) → IsState s → IsBalanced s xs
  balance each s [] is = omega arith
  balance each s (x ∷ xs) is = at-step s x xs (after s x) is (after-is-state s x is) (each s x is) (λ t h. balance each t xs h)

-- readers that come and go
one_more-balances : (n : ℕ) → IfSome (if nat_lt n most_readers then Some (Read (n + 1)) else None) (Balances readers_of is_reader_coming is_reader_going (Read n) BorrowForReading)
one_more-balances n = grind (arith, common_steps)

one_more-no-writer : (n : ℕ) → IfSome (if nat_lt n most_readers then Some (Read (n + 1)) else None) (Balances writers_of is_writer_coming is_writer_going (Read n) BorrowForReading)
one_more-no-writer n = grind (arith, common_steps)

readers-balance : (s : State) (x : Step) → IsState s → IfSome (after s x) (Balances readers_of is_reader_coming is_reader_going s x)
readers-balance Free BorrowForReading is = refl
readers-balance Free ReturnFromReading is = tt
readers-balance Free BorrowForWriting is = refl
readers-balance Free ReturnFromWriting is = tt
readers-balance (Read n) BorrowForReading is = one_more-balances n
readers-balance (Read n) ReturnFromReading (some, few) = let there : readers_of (with_readers (n - 1)) ≡ n - 1 = with_readers-readers (n - 1) in omega (arith, there, some)
readers-balance (Read n) BorrowForWriting is = tt
readers-balance (Read n) ReturnFromWriting is = tt
readers-balance Written BorrowForReading is = tt
readers-balance Written ReturnFromReading is = tt
readers-balance Written BorrowForWriting is = tt
readers-balance Written ReturnFromWriting is = refl

writers-balance : (s : State) (x : Step) → IsState s → IfSome (after s x) (Balances writers_of is_writer_coming is_writer_going s x)
writers-balance Free BorrowForReading is = refl
writers-balance Free ReturnFromReading is = tt
writers-balance Free BorrowForWriting is = refl
writers-balance Free ReturnFromWriting is = tt
writers-balance (Read n) BorrowForReading is = one_more-no-writer n
writers-balance (Read n) ReturnFromReading (some, few) = let there : writers_of (with_readers (n - 1)) ≡ 0 = with_readers-writers (n - 1) in omega (arith, there)
writers-balance (Read n) BorrowForWriting is = tt
writers-balance (Read n) ReturnFromWriting is = tt
writers-balance Written BorrowForReading is = tt
writers-balance Written ReturnFromReading is = tt
writers-balance Written BorrowForWriting is = tt
writers-balance Written ReturnFromWriting is = refl

few-readers : (s : State) → IsState s → readers_of s ≤ most_readers
few-readers Free is = omega arith
few-readers (Read n) (some, few) = few
few-readers Written is = omega arith

one-writer : (s : State) → writers_of s ≤ 1
one-writer Free = omega arith
one-writer (Read n) = omega arith
one-writer Written = omega arith

never-both : (s : State) → (readers_of s ≡ 0) ⊎ (writers_of s ≡ 0)
never-both Free = inl refl
never-both (Read n) = inr refl
never-both Written = inl refl

-- what holds after any list of steps
pub every-run-is-kept : (xs : List Step) → IsKept xs
every-run-is-kept xs = record {
  is_state = after_all-is-state Free xs tt;
  readers = omega (arith, balance readers_of is_reader_coming is_reader_going readers-balance Free xs tt);
  writers = omega (arith, balance writers_of is_writer_coming is_writer_going writers-balance Free xs tt);
  few_readers = few-readers (after_all Free xs) (after_all-is-state Free xs tt);
  one_writer = one-writer (after_all Free xs);
  apart = never-both (after_all Free xs);
}
