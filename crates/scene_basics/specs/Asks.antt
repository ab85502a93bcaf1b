-- What the systems ask for that change nothing themselves: a command for each id that passes a test.
use Rattle.std.specs.Prelude.{◌≡◌, ◌<◌, ◌≤◌, ℕ, ℤ, pos, int_le, Bool, List, [], ◌∷◌, length, take, Option, Some, None, if◌then◌else◌}
use Rattle.std.specs.List.{filter_map}
use Rattle.scene_model.specs.Parts.{Part}
use Rattle.scene_model.specs.Rulebook.{Fragment, Outcome, leaves, refuses, fills, queue_room, Command, spawn, kill}
use Rattle.shred_stages.specs.declared.stop.Stop.{Stop}
use Rattle.shred_stages.specs.declared.stop.Stop.TheVariants as stop
use Rattle.scene_basics.specs.declared.data.Ask.{Ask}
use Rattle.scene_basics.specs.declared.data.Ask.TheVariants.{Deaths, Births}
use Rattle.scene_basics.specs.Names.{hp_kind, pos_kind}
use Rattle.scene_basics.specs.Numbers.{counting}
use Rattle.scene_basics.specs.Gains.{number_at}

-- the death of an id whose hp is this, where it is at most 0
abbrev pub death_by : ℕ → Option ℤ → Option Command
death_by id None = None
death_by id (Some hp) = if int_le hp (pos 0) then Some (kill id) else None

-- an entity with hp 1 and this pos
abbrev pub newborn : Part → Command
newborn place = spawn ((hp_kind, counting (pos 1)) ∷ (pos_kind, place) ∷ [])

-- the birth at a pos, if there is one
abbrev pub birth_at : Option Part → Option Command
birth_at None = None
birth_at (Some place) = Some (newborn place)

-- the birth by an id whose hp is this, where it is at least 10, at its pos
abbrev pub birth_by : Option ℤ → Option Part → Option Command
birth_by None place = None
birth_by (Some hp) place = if int_le (pos 10) hp then birth_at place else None

-- whether something may be asked for one who has this hp
abbrev pub asks : Ask → ℤ → Bool
asks Deaths hp = int_le hp (pos 0)
asks Births hp = int_le (pos 10) hp

-- the command that is asked for an id, if one is
abbrev pub asked_for : Ask → Fragment → ℕ → Option Command
asked_for Deaths fragment id = death_by id (number_at fragment hp_kind id)
asked_for Births fragment id = birth_by (number_at fragment hp_kind id) (fragment.part id pos_kind)

-- all that is asked for, ascending by id
abbrev pub asked_of : Ask → Fragment → List Command
asked_of ask fragment = filter_map (asked_for ask fragment) fragment.ids

-- nothing is changed, and all that is asked for is asked; or there is more than a queue holds, and it holds the first of it
abbrev pub Asking : Ask → Fragment → Outcome → Type 0
Asking ask old (leaves new commands) = (new ≡ old) × (commands ≡ asked_of ask old) × (length commands ≤ queue_room)
Asking ask old (refuses text) = ⊥
Asking ask old (fills commands) = (queue_room < length (asked_of ask old)) × (commands ≡ take queue_room (asked_of ask old))

-- a command was not asked for: the queue was full, and is as it was, or memory was wanting
abbrev pub IsNotAsked : Option Command → List Command → List Command → Stop → Type 0
IsNotAsked command old new (stop.Refused text) = ⊥
IsNotAsked command old new stop.Memory = Unit {0}
IsNotAsked command old new stop.Full = (one : Command) × (command ≡ Some one) × (length old ≡ queue_room) × (new ≡ old)
