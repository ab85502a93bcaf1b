-- Commands that are asked for one after the other, until a queue takes no more.
use Rattle.std.specs.Prelude.{◌≡◌, ◌++◌, List, ◌∷◌, length, Option, Some, Result, MatchResult}
use Rattle.shred_stages.specs.declared.stop.Stop.{Stop}
use Rattle.shred_stages.specs.declared.stop.Stop.TheVariants as stop
use Rattle.scene_model.specs.Rulebook.{Command, queue_room}

-- a command was not asked for: the queue was full, and is as it was, or memory was wanting
abbrev pub IsNotAsked : Option Command → List Command → List Command → Stop → Type 0
IsNotAsked command old new (stop.Refused text) = ⊥
IsNotAsked command old new stop.Memory = Unit {0}
IsNotAsked command old new stop.Full = (one : Command) × (command ≡ Some one) × (length old ≡ queue_room) × (new ≡ old)

-- it stopped with these commands: for want of memory, or since the queue is full of the first of all, and more are to come
abbrev pub StopsAsking : List Command → List Command → Stop → Type 0
StopsAsking all commands (stop.Refused text) = ⊥
StopsAsking all commands stop.Memory = Unit {0}
StopsAsking all commands stop.Full = ((first : Command) × (rest : List Command) × (all ≡ commands ++ first ∷ rest)) × (length commands ≡ queue_room)

-- all of these were asked for behind what was there, or it stopped before
abbrev pub AsksFor : {T : Type 0} → Result T Stop → (old all new : List Command) → Type 0
AsksFor result old all new = MatchResult result (λ _. new ≡ old ++ all) (StopsAsking (old ++ all) new)
