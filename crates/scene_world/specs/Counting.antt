-- A global that is a number, of which one more is counted, and with it the numbers of a kind that become others.
use Rattle.std.specs.Prelude.{◌≡◌, ◌+◌, ℕ, List, Option, Some, None, option_and_then}
use Rattle.std.specs.String.{string_bytes}
use Rattle.shred_world.specs.Bundles.{Holding, readable}
use Rattle.shred_stages.specs.declared.stop.Stop.{Stop}
use Rattle.shred_stages.specs.declared.stop.Stop.TheVariants as stop
use Rattle.scene_model.specs.Parts.{Json, Name}
use Rattle.scene_world.specs.Places.{Columns}
use Rattle.scene_world.specs.Numbers.{counted, number_in}
use Rattle.scene_world.specs.Held.{Sets, Changes, NumbersBecome}

module _ {V : Type 0} (columns : Columns V) (name : Name) where
  -- whatever a value is as the global, it is a number
  abbrev pub AreCounts : Type 0
  AreCounts = (v : V) (json : Json) → columns.value name v ≡ Some json → (number : ℕ) × (counted number ≡ json)

  -- the number that the global of a name is, in what is held
  abbrev pub count_at : Holding V → Option ℕ
  count_at w = option_and_then number_in (option_and_then (columns.value name) (readable (w (columns.global_id name))))

  -- where it was a number it is the next one after, and nothing else changed
  abbrev pub CountsFrom : Option ℕ → (seen left : Holding V) → Type 0
  CountsFrom None seen left = left ≡ seen
  CountsFrom (Some number) seen left = (value : V) × (columns.value name value ≡ Some (counted (number + 1))) × Sets (columns.global_id name) value seen left

  abbrev pub CountsOne : (seen left : Holding V) → Type 0
  CountsOne seen left = CountsFrom (count_at seen) seen left

  -- it stopped for want of memory, or with this text, where the number is the last of 64 bits
  abbrev pub StopsCounting : List ℕ → Holding V → Stop → Type 0
  StopsCounting last seen (stop.Refused text) = (string_bytes text ≡ last) × (count_at seen ≡ Some 18446744073709551615)
  StopsCounting last seen stop.Memory = Unit {0}
  StopsCounting last seen stop.Full = ⊥

  -- one more was counted, and then each number of a kind became what is made of it at its index
  pub record CountsAndWrites (kind : Name) (made : ℕ → ℕ → ℕ) (seen left : Holding V) : Type 0 where
    pub between : Holding V
    pub counts : CountsOne seen between
    pub writes : Changes (columns.part_id kind) (NumbersBecome (columns.stored kind) (columns.events kind) (columns.emits kind) made) between left
