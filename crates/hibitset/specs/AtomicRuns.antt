-- Runs: any list of steps of any number of callers of a set.
use Rattle.std.specs.Prelude.{true, ◌↔◌, ◌⊎◌, ◌<◌, ◌≡◌, ℕ, Bool, ◌*◌, ◌/◌, ◌==◌, ◌&&◌, nat_lt, List, [], ◌∷◌, replicate, slice_index, slice_set, if◌then◌else◌}
use Rattle.std.specs.List.{Contains}
use mathlib.Core.Option.{Option, none, some}
use lib.ListN.{get_elem?}
use Rattle.hibitset.specs.Cut.{number_in}
use Rattle.hibitset.specs.declared.atomic_core.Caller.{Caller}
use Rattle.hibitset.specs.declared.atomic_core.Run.{Run}
use Rattle.hibitset.specs.declared.atomic_core.Step.{Step}
use Rattle.hibitset.specs.declared.atomic_core.Step.TheVariants.{Begin, Rise, Look}
use Rattle.hibitset.specs.AtomicCore.{Sizes, AreExact, bit, with_bit, address, newcomer, begun, risen, ended, looked, IsSound}

-- the state with these words and callers
abbrev pub run_of : List ℕ → List Caller → Run
run_of words callers = record { words = words; callers = callers }

-- so many callers come to the words
abbrev pub start : List ℕ → ℕ → Run
start words callers = run_of words (replicate callers newcomer)

-- a caller without a call in flight begins one on an index within layer 0
abbrev pub after_begin : Sizes → Run → ℕ → ℕ → Option Caller → Run
after_begin sizes run who index none = run
after_begin sizes run who index (some caller) =
    if (caller.stage == 0) && nat_lt index (64 * sizes.first)
    then run_of (with_bit run.words index) (slice_set run.callers who (begun caller index (slice_index run.words (index / 64))))
    else run

-- the call in flight goes one layer up
abbrev pub after_rise : Sizes → Run → ℕ → Option Caller → Run
after_rise sizes run who none = run
after_rise sizes run who (some caller) =
    if caller.stage == 0
    then run
    else run_of (with_bit run.words (address sizes caller.stage (number_in caller.stage caller.index))) (slice_set run.callers who (if nat_lt caller.stage 3 then risen caller else ended caller))

-- a caller loads a word
abbrev pub after_look : Run → ℕ → ℕ → Option Caller → Run
after_look run who number none = run
after_look run who number (some caller) = run_of run.words (slice_set run.callers who (looked caller number (slice_index run.words number)))

-- the state after a step
abbrev pub after : Sizes → Run → Step → Run
after sizes run (Begin who index) = after_begin sizes run who index (get_elem? run.callers who)
after sizes run (Rise who) = after_rise sizes run who (get_elem? run.callers who)
after sizes run (Look who number) = after_look run who number (get_elem? run.callers who)

-- the state after all of the steps in order
abbrev pub after_all : Sizes → List Step → Run → Run
after_all sizes [] run = run
after_all sizes (step ∷ steps) run = after_all sizes steps (after sizes run step)

-- what holds between any two steps
abbrev pub IsSoundRun : Sizes → (ℕ → Bool) → Run → Type 0
IsSoundRun sizes old run = IsSound sizes old run.words run.callers

-- no call is in flight
abbrev pub IsAtRest : List Caller → Type 0
IsAtRest callers = (who : ℕ) (caller : Caller) → get_elem? callers who ≡ some caller → caller.stage ≡ 0

-- a caller lists an ended call on the index
abbrev pub IsListed : List Caller → ℕ → Type 0
IsListed callers index = (who : ℕ) × (caller : Caller) × (get_elem? callers who ≡ some caller) × ((found : Bool) × Contains caller.calls (index, found))

-- layer 0 has exactly the old members and the indices that a caller lists, and the summaries are exact
pub record AreMembers (sizes : Sizes) (old : ℕ → Bool) (run : Run) : Type 0 where
  pub members : (index : ℕ) → index < 64 * sizes.first → (bit run.words index ≡ 1) ↔ ((old index ≡ true) ⊎ IsListed run.callers index)
  pub exact : AreExact sizes run.words
