-- How the state of a cell stands in its word. No public clause cites this.
use Rattle.std.specs.Prelude.{◌≡◌, ℕ, ◌+◌, ◌*◌, ◌/◌, ◌%◌, ◌==◌, ◌&&◌, nat_lt, if◌then◌else◌}
use Rattle.counted_slot.specs.Counting.{Gains}
use Rattle.shred.specs.declared.cells.cell_core.State.{State}
use Rattle.shred.specs.declared.cells.cell_core.State.TheVariants.{Free, Read, Written}
use Rattle.shred.specs.declared.cells.cell_core.Step.{Step}
use Rattle.shred.specs.declared.cells.cell_core.Step.TheVariants.{BorrowForReading, ReturnFromReading, BorrowForWriting, ReturnFromWriting}
use Rattle.shred.specs.Cells.{with_readers}

-- the state that a word shows: the value is in the cell and so many read it, or it is with a writer
abbrev pub state_of_word : ℕ → State
state_of_word word = if nat_lt word 4294967296 && (word % 4 == 1) then with_readers (word / 4) else Written

-- the word that shows a state
abbrev pub word_of_state : State → ℕ
word_of_state Free = 1
word_of_state (Read readers) = 4 * readers + 1
word_of_state Written = 3

-- the step asks for the cell
abbrev pub IsBorrow : Step → Type 0
IsBorrow BorrowForReading = Unit {0}
IsBorrow ReturnFromReading = ⊥
IsBorrow BorrowForWriting = Unit {0}
IsBorrow ReturnFromWriting = ⊥

-- the right that a borrow gains: 1 to read, 2 to write
abbrev pub right_of : Step → ℕ
right_of BorrowForReading = 1
right_of ReturnFromReading = 0
right_of BorrowForWriting = 2
right_of ReturnFromWriting = 0

-- whoever brings the word from the old one to the new one gains what the step asks for
abbrev pub Earns : Step → (old new : ℕ) → Type 0
Earns step old new = (right : ℕ) → Gains old new right → right ≡ right_of step
