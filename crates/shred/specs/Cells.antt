-- A cell: how it is borrowed, what each step makes of that, and what every list of steps comes to.
use Rattle.std.specs.Prelude.{◌≡◌, ℕ, zero, suc, nat_lt, ◌+◌, ◌-◌, ◌<◌, ◌≤◌, ◌⊎◌, Bool, true, false, Option, Some, None, List, [], ◌∷◌, unwrap_or, count_by, if◌then◌else◌}
use Rattle.std.specs.Option.{option_map_or}
use Rattle.shred.specs.declared.cells.cell_core.State.{State}
use Rattle.shred.specs.declared.cells.cell_core.State.TheVariants.{Free, Read, Written}
use Rattle.shred.specs.declared.cells.cell_core.Step.{Step}
use Rattle.shred.specs.declared.cells.cell_core.Step.TheVariants.{BorrowForReading, ReturnFromReading, BorrowForWriting, ReturnFromWriting}

-- the greatest number of readers at once
abbrev pub most_readers : ℕ
most_readers = 1073741823

-- a cell is free, has readers up to the greatest number, or has one writer
abbrev pub IsState : State → Type 0
IsState Free = Unit {0}
IsState (Read readers) = (0 < readers) × (readers ≤ most_readers)
IsState Written = Unit {0}

-- the state of a cell with so many readers and no writer
abbrev pub with_readers : ℕ → State
with_readers zero = Free
with_readers (suc fewer) = Read (suc fewer)

-- the state after a step, where the step is accepted
abbrev pub after : State → Step → Option State
after Free BorrowForReading = Some (Read 1)
after Free BorrowForWriting = Some Written
after Free ReturnFromReading = None
after Free ReturnFromWriting = None
after (Read readers) BorrowForReading = if nat_lt readers most_readers then Some (Read (readers + 1)) else None
after (Read readers) ReturnFromReading = Some (with_readers (readers - 1))
after (Read readers) BorrowForWriting = None
after (Read readers) ReturnFromWriting = None
after Written ReturnFromWriting = Some Free
after Written BorrowForReading = None
after Written BorrowForWriting = None
after Written ReturnFromReading = None

-- the state that begins here, after all of the steps in order; a refused step leaves it as it is
abbrev pub after_all : State → List Step → State
after_all state [] = state
after_all state (step ∷ steps) = after_all (unwrap_or (after state step) state) steps

-- those of the steps that are accepted, in order
abbrev pub accepted : State → List Step → List Step
accepted state [] = []
accepted state (step ∷ steps) = option_map_or (λ next. step ∷ accepted next steps) (after state step) (accepted state steps)

-- whether a reader comes
abbrev pub is_reader_coming : Step → Bool
is_reader_coming BorrowForReading = true
is_reader_coming ReturnFromReading = false
is_reader_coming BorrowForWriting = false
is_reader_coming ReturnFromWriting = false

-- whether a reader goes
abbrev pub is_reader_going : Step → Bool
is_reader_going BorrowForReading = false
is_reader_going ReturnFromReading = true
is_reader_going BorrowForWriting = false
is_reader_going ReturnFromWriting = false

-- whether a writer comes
abbrev pub is_writer_coming : Step → Bool
is_writer_coming BorrowForReading = false
is_writer_coming ReturnFromReading = false
is_writer_coming BorrowForWriting = true
is_writer_coming ReturnFromWriting = false

-- whether a writer goes
abbrev pub is_writer_going : Step → Bool
is_writer_going BorrowForReading = false
is_writer_going ReturnFromReading = false
is_writer_going BorrowForWriting = false
is_writer_going ReturnFromWriting = true

-- how many readers a cell has
abbrev pub readers_of : State → ℕ
readers_of Free = 0
readers_of (Read readers) = readers
readers_of Written = 0

-- how many writers a cell has
abbrev pub writers_of : State → ℕ
writers_of Free = 0
writers_of (Read readers) = 0
writers_of Written = 1

-- how many of the steps that a cell accepts, which begins free, are such
abbrev pub how_many : (Step → Bool) → List Step → ℕ
how_many is_such steps = count_by is_such (accepted Free steps)

-- what holds after the steps of a cell that begins free: it is free, has readers up to the greatest number, or has one writer
pub record IsKept (steps : List Step) : Type 0 where
  pub is_state : IsState (after_all Free steps)
  -- the readers that are there are those that came and didn't go, and the writers likewise
  pub readers : how_many is_reader_coming steps ≡ how_many is_reader_going steps + readers_of (after_all Free steps)
  pub writers : how_many is_writer_coming steps ≡ how_many is_writer_going steps + writers_of (after_all Free steps)
  -- there are at most so many readers, at most one writer, and never both
  pub few_readers : readers_of (after_all Free steps) ≤ most_readers
  pub one_writer : writers_of (after_all Free steps) ≤ 1
  pub apart : (readers_of (after_all Free steps) ≡ 0) ⊎ (writers_of (after_all Free steps) ≡ 0)
