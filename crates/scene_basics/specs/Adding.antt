-- What the systems do in a world that add something to numbers.
use Rattle.std.specs.Prelude.{◌≡◌, ℕ, ℤ, ◌+ℤ◌, Option, Some, option_and_then, option_map}
use Rattle.std.specs.String.{string_bytes}
use Rattle.shred_world.specs.Bundles.{Holding, readable, out, owned, with_slot}
use Rattle.shred_stages.specs.declared.stop.Stop.{Stop}
use Rattle.shred_stages.specs.declared.stop.Stop.TheVariants as stop
use Rattle.specs_layouts.specs.Channels.{log_of}
use Rattle.specs_layouts.specs.Flagged.{Flagged, tells}
use Rattle.specs_layouts.specs.Shows.{Shows}
use Rattle.specs_join.specs.declared.join.change.EachError.{EachError}
use Rattle.specs_join.specs.declared.join.change.EachError.TheVariants as error
use Rattle.specs_join.specs.ChangeEach.{AreChanged, IsRefused}
use Rattle.scene_world.specs.declared.any_store.AnyStore.{AnyStore}
use Rattle.scene_world.specs.Stores.{store_part}
use Rattle.scene_model.specs.Parts.{Name}
use Rattle.scene_world.specs.Rolls.{index_of}
use Rattle.scene_basics.specs.declared.data.Gain.{Gain}
use Rattle.scene_basics.specs.declared.data.Gain.TheVariants.{Under, Each}
use Rattle.scene_basics.specs.declared.values.Whole.{Whole}
use Rattle.scene_basics.specs.declared.values.Value.{Value}
use Rattle.scene_basics.specs.declared.values.Value.TheVariants.{NumbersValue}
use Rattle.scene_basics.specs.Names.{overflow}
use Rattle.scene_basics.specs.Numbers.{if_signed}
use Rattle.scene_basics.specs.Values.{Numbers, numbers_in, whole_at}
use Rattle.scene_basics.specs.Columns.{part_id}
use Rattle.scene_basics.specs.Known.{basic_roll}

-- a number with something added, if that is one of 64 signed bits
abbrev pub gained : Whole → ℤ → Option Whole
gained whole by = option_map (λ sum. record { 0 = sum }) (if_signed (whole.0 +ℤ by))

-- the numbers in what may be a value
abbrev pub numbers_of : Option Value → ℕ → Option Whole
numbers_of held index = option_and_then (λ s. whole_at s index) (option_and_then numbers_in held)

-- what is added at an index: the number that is seen there under a kind, or the same everywhere
abbrev pub addend : Gain → Holding Value → ℕ → Option ℤ
addend (Under kind) w index = option_map (λ (whole : Whole). whole.0) (numbers_of (readable (w (part_id kind.now))) index)
addend (Each by) w index = by

-- the events of numbers show what became of them
abbrev pub ShowsNumbers : Numbers → Numbers → Type 0
ShowsNumbers before after = Shows (λ (s : Flagged (AnyStore Whole)). store_part s.inner) (λ s. log_of s.channel) tells before.inner after.inner

-- the numbers of a kind were taken and put back changed, and nothing else changed
pub record WritesNumbers (kind : Name) (before after : Numbers) (seen left : Holding Value) : Type 0 where
  pub written : seen (part_id kind) ≡ owned (NumbersValue before)
  pub others : left ≡ with_slot seen (part_id kind) (owned (NumbersValue after))

-- each number of a kind has gained what is added at its index, and the events show it
pub record Adds (kind : Name) (gain : Gain) (seen left : Holding Value) : Type 0 where
  pub before : Numbers
  pub after : Numbers
  pub writes : WritesNumbers kind before after seen left
  pub changed : AreChanged gained (whole_at before) (addend gain (with_slot seen (part_id kind) out)) (whole_at after)
  pub shown : ShowsNumbers before after

-- the sum at the index of an id leaves the range of 64 signed bits
pub record AddsTooMuch (kind : Name) (gain : Gain) (seen left : Holding Value) : Type 0 where
  pub before : Numbers
  pub after : Numbers
  pub writes : WritesNumbers kind before after seen left
  pub index : ℕ
  pub id : ℕ
  pub known : index_of (basic_roll left) id ≡ Some index
  pub refused : IsRefused gained (whole_at before) (addend gain (with_slot seen (part_id kind) out)) index

-- a stop says `overflow` of somebody who is known under an id, or that memory was wanting
abbrev pub SaysOverflow : Holding Value → ℕ → Stop → Type 0
SaysOverflow w index (stop.Refused text) = (string_bytes text ≡ overflow) × (id : ℕ) × (index_of (basic_roll w) id ≡ Some index)
SaysOverflow w index stop.Memory = Unit {0}
SaysOverflow w index stop.Full = ⊥

-- what is said of an error of additions
abbrev pub SaysWhy : Holding Value → EachError (Unit {0}) → Stop → Type 0
SaysWhy w error.Memory why = why ≡ stop.Memory
SaysWhy w (error.Refused index nothing) why = SaysOverflow w index why

-- a stop of a system that adds: `overflow`, of the sum of an id, or want of memory
abbrev pub StopsAdding : Name → Gain → Holding Value → Holding Value → Stop → Type 0
StopsAdding kind gain seen left (stop.Refused text) = (string_bytes text ≡ overflow) × AddsTooMuch kind gain seen left
StopsAdding kind gain seen left stop.Memory = Unit {0}
StopsAdding kind gain seen left stop.Full = ⊥
