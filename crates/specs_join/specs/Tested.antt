-- What becomes of the parts at the indices that pass a test, where each that has an item is changed.
use Rattle.std.specs.Prelude.{◌≡◌, ℕ, nat_lt, ◌*◌, ◌/◌, ◌%◌, ◌<◌, ◌==◌, ◌&&◌, Bool, true, false, if◌then◌else◌, Option, None, IsSome, Result, Ok, Err}
use Rattle.hibitset_sets.specs.Bits.{has_bit}
use Rattle.hibitset_sets.specs.Walk.{walk}
use Rattle.specs_layouts.specs.Channels.{Log}
use Rattle.specs_layouts.specs.Shows.{Shows}
use Rattle.specs_layouts.specs.declared.track.ComponentEvent.{ComponentEvent}
use Rattle.specs_join.specs.ChangeEach.{AreChanged, AreChangedBelow, IsRefused, told_each}
use Rattle.specs_join.specs.declared.join.change.EachError.{EachError}
use Rattle.specs_join.specs.declared.join.change.EachError.TheVariants as error

-- the items at the indices that pass the test
abbrev pub tested : {S : Type 0} → (ℕ → Bool) → (ℕ → Option S) → ℕ → Option S
tested test items index = if test index then items index else None

module _ {L T S : Type 0} (part_at : L → ℕ → Option T) (events : L → Log ComponentEvent) (emits : L → Bool) (changed : T → S → Option T) (items : ℕ → Option S)
    (test : ℕ → Bool) (before : L) where
  -- the parts at the indices that pass the test are changed, and the events tell it
  pub record AreDone (after : L) : Type 0 where
    pub parts : AreChanged changed (part_at before) (tested test items) (part_at after)
    pub told : events after ≡ told_each (emits before) (events before) (walk test)

  -- there was no memory for an event of one of them
  pub record IsWanting (after : L) : Type 0 where
    pub emission : emits before ≡ true
    pub index : ℕ
    pub passes : test index ≡ true
    pub below : AreChangedBelow changed (part_at before) (tested test items) index (part_at after)

  -- the change at an index that passes the test is refused
  pub record IsStopped (index : ℕ) (after : L) : Type 0 where
    pub refused : IsRefused changed (part_at before) (tested test items) index
    pub below : AreChangedBelow changed (part_at before) (tested test items) index (part_at after)

  -- how the change of them ends
  abbrev pub EndsSo : {R : Type 0} → Result (Unit {0}) (EachError R) → L → Type 0
  EndsSo (Ok nothing) after = AreDone after
  EndsSo (Err error.Memory) after = IsWanting after
  EndsSo (Err (error.Refused index refusal)) after = IsStopped index after

  -- how it ends, and what the events show
  pub record Ends {R : Type 0} (result : Result (Unit {0}) (EachError R)) (after : L) : Type 0 where
    pub shows : Shows part_at events emits before after
    pub ends : EndsSo result after

-- each index that passes the test has a part and an item
abbrev pub AreThere : {T S : Type 0} → (ℕ → Option T) → (ℕ → Option S) → (ℕ → Bool) → Type 0
AreThere parts items test = (index : ℕ) → test index ≡ true → IsSome (parts index) × IsSome (items index)

-- the index is that of a bit of a word
abbrev pub in_word : ℕ → ℕ → ℕ → Bool
in_word bits word index = (index / 64 == word) && has_bit bits (index % 64)

-- the index is a member in the 64 words under a word of the layer above
abbrev pub in_group : (ℕ → Bool) → ℕ → ℕ → Bool
in_group members top index = (index / 4096 == top) && members index

-- the index is a member in the words under the first words of the layer above
abbrev pub in_groups : (ℕ → Bool) → ℕ → ℕ → Bool
in_groups members tops index = nat_lt index (4096 * tops) && members index

-- what is left of a word of which bits were taken, the lowest first
pub record IsRest (word left : ℕ) : Type 0 where
  pub within : (bit : ℕ) → bit < 64 → has_bit left bit ≡ true → has_bit word bit ≡ true
  pub later : (one other : ℕ) → one < 64 → other < 64 → has_bit word one ≡ true → has_bit left one ≡ false → has_bit left other ≡ true → one < other
