-- What the systems ask for in a world that change nothing themselves.
use Rattle.std.specs.Prelude.{◌≡◌, ℕ, ℤ, Bool, false, List, length, Option, option_and_then, option_map}
use Rattle.std.specs.Option.{option_map_or}
use Rattle.shred_world.specs.Bundles.{Holding, readable}
use Rattle.shred_stages.specs.declared.stop.Stop.{Stop}
use Rattle.shred_stages.specs.declared.stop.Stop.TheVariants as stop
use Rattle.scene_model.specs.Parts.{Name}
use Rattle.scene_model.specs.Rulebook.{Fragment, Command, fills, queue_room}
use Rattle.scene_world.specs.Rolls.{index_of}
use Rattle.scene_world.specs.Standing.{fragment_of}
use Rattle.scene_basics.specs.declared.data.Ask.{Ask}
use Rattle.scene_basics.specs.declared.data.Ask.TheVariants.{Deaths, Births}
use Rattle.scene_basics.specs.declared.data.BasicSystem.TheVariants.{Reap, Bud}
use Rattle.scene_basics.specs.declared.values.Whole.{Whole}
use Rattle.scene_basics.specs.declared.values.Value.{Value}
use Rattle.scene_basics.specs.Asks.{asks, Asking}
use Rattle.scene_basics.specs.Systems.{declared_access}
use Rattle.scene_basics.specs.Columns.{part_id, basic_kinds}
use Rattle.scene_basics.specs.Known.{basic_roll}
use Rattle.scene_basics.specs.Values.{Numbers, whole_at}
use Rattle.scene_basics.specs.Adding.{numbers_of}

-- the number at an index under a kind, and the number of an id
abbrev pub number_seen : Holding Value → Name → ℕ → Option ℤ
number_seen w kind index = option_map (λ (whole : Whole). whole.0) (numbers_of (readable (w (part_id kind))) index)

abbrev pub number_under : Holding Value → Name → ℕ → Option ℤ
number_under w kind id = option_and_then (number_seen w kind) (index_of (basic_roll w) id)

-- whether something may be asked for one at an index, of numbers by their indices, and of a storage of numbers
abbrev pub asks_where : Ask → (ℕ → Option Whole) → ℕ → Bool
asks_where ask parts index = option_map_or (λ (whole : Whole). asks ask whole.0) (parts index) false

abbrev pub asks_at : Ask → Numbers → ℕ → Bool
asks_at ask numbers = asks_where ask (whole_at numbers)

-- what the system that asks is lent of what is held
abbrev pub lent_for : Ask → Holding Value → Fragment
lent_for Deaths w = fragment_of basic_kinds (declared_access Reap) w
lent_for Births w = fragment_of basic_kinds (declared_access Bud) w

-- a stop of a system that asks: its queue is full of the first of what it asks for, or memory was wanting
abbrev pub StopsAsking : Ask → Fragment → List Command → Stop → Type 0
StopsAsking ask old commands (stop.Refused text) = ⊥
StopsAsking ask old commands stop.Memory = Unit {0}
StopsAsking ask old commands stop.Full = Asking ask old (fills commands) × (length commands ≡ queue_room)
