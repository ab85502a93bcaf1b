-- The rule of the table of a shared set, and what each atomic step tells. No public clause cites this file.
use Rattle.std.specs.Prelude.{◌≡◌, ℕ, ◌+◌, ◌*◌, ◌/◌, ◌%◌, ◌^◌, ◌<◌, List, [], map}
use Rattle.std.specs.Int.{bit_at}
use Rattle.std.specs.List.{All}
use Rattle.std.specs.FinSet as set
use mathlib.Core.Option.{some}
use lib.ListN.{get_elem?}
use Rattle.atomic_table.specs.Table.{State, Me, Step}
use Rattle.hibitset_sets.specs.BitSet.{SetWithRoom, has_member}
use Rattle.hibitset.specs.declared.atomic_core.Caller.{Caller}
use Rattle.hibitset.specs.declared.shared_rule.SeatView.{SeatView}
use Rattle.hibitset.specs.AtomicCore.{Sizes, one_if, bit, total, new_reports, StaysSet, HasAllBits, IsSound, AreExact, newcomer, begun, risen, ended, looked, merged}
use Rattle.hibitset.specs.SeatViews.{view_with, with_caller, kept_view, given_view, Knows}

-- the layers of a set with room for each index
abbrev pub full : Sizes
full = record { first = 262144; second = 4096; third = 64 }

abbrev pub caller_of : SeatView → Caller
caller_of view = view.caller

-- a view with parts has the set at `share`; one without did nothing
pub record IsView (old : SetWithRoom) (view : SeatView) : Type 0 where
  pub holds : 0 < view.parts → view.old ≡ old
  pub spent : view.parts ≡ 0 → (view.caller.calls ≡ []) × (view.caller.stage ≡ 0)

-- there are 65,536 parts in all, and words and callers are a state of the core
pub record IsShared (old : SetWithRoom) (state : State (Unit {0}) SeatView) : Type 0 where
  pub parts : total (λ view. view.parts) state.views ≡ 65536
  pub sound : IsSound full (has_member old) state.words (map caller_of state.views)
  pub views : (who : ℕ) (view : SeatView) → get_elem? state.views who ≡ some view → IsView old view

-- so many parts are about to be split off
abbrev pub planning : SeatView → ℕ → SeatView
planning view parts = view_with view.caller view.old view.parts parts

abbrev pub kept : SeatView → SeatView
kept view = kept_view view view.plan

abbrev pub given : SeatView → SeatView
given view = given_view view view.plan

abbrev pub both : SeatView → SeatView → SeatView
both view other = view_with (merged view.caller other.caller) view.old (view.parts + other.parts) view.plan

-- what is left of a seat that another took in
abbrev pub spent_view : SeatView
spent_view = view_with newcomer (record { members = set.empty; room = 0 }) 0 0

-- a seat: its view, and the slots that it holds, which are none
abbrev Mine : Type 0
Mine = Me (Unit {0}) SeatView

-- a call begins on the index of the bit that the mask has
abbrev pub begins : Step (Unit {0}) → Mine → ℕ → Mine → Type 0
begins step before word after = (after.1 ≡ before.1) × ((place : ℕ) → place < 64 → step.first ≡ 1 * 2 ^ place % 2 ^ 64 → after.0 ≡ with_caller before.0 (begun before.0.caller (step.word * 64 + place) word))

-- the call in flight goes up
abbrev pub rises : Step (Unit {0}) → Mine → ℕ → Mine → Type 0
rises step before word after = (after.1 ≡ before.1) × (after.0 ≡ with_caller before.0 (risen before.0.caller))

-- and ends
abbrev pub ends : Step (Unit {0}) → Mine → ℕ → Mine → Type 0
ends step before word after = (after.1 ≡ before.1) × (after.0 ≡ with_caller before.0 (ended before.0.caller))

-- a load enters what it found, which has all that the seat knows
abbrev pub looks : Step (Unit {0}) → Mine → ℕ → Mine → Type 0
looks step before word after =
    (after.1 ≡ before.1) × (after.0 ≡ with_caller before.0 (looked before.0.caller step.word word)) × ((index : ℕ) → index / 64 ≡ step.word → Knows before.0 index → bit_at word (index % 64) ≡ 1)

-- a load of the word of that number plans a split, and tells that the parts are at most all
abbrev pub plans : Step (Unit {0}) → Mine → ℕ → Mine → Type 0
plans step before word after = (after.1 ≡ before.1) × (after.0 ≡ planning before.0 step.word) × (before.0.parts < 65537)

-- what a view with all parts says of the words
pub record Settles (view : SeatView) (words : List ℕ) : Type 0 where
  pub counts : (index : ℕ) → index < 16777216 → new_reports index view.caller.calls + one_if (has_member view.old index) ≡ bit words index
  pub listed : All (λ call. HasAllBits full words call.0) view.caller.calls
  pub seen : All (StaysSet words) view.caller.seen
  pub exact : AreExact full words
