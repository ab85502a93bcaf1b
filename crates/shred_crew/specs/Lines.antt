-- A line between the caller and a worker: what was asked, what lies on the line, and what became of it.
use Rattle.std.specs.Prelude.{◌≡◌, ◌⊎◌, Bool, true, false, Option, None, Some, List, [], ◌∷◌, vec_capacity}
use Rattle.std.specs.Global.{Vec}
use Rattle.std.specs.Arc.{arc_value}
use Rattle.std.specs.List.{AllZip}
use Rattle.crossbeam_queue.specs.Passes.{Pass, view, IsPassOf, ruled_capacity}
use Rattle.crossbeam_queue.specs.declared.array_queue.Doing.{Doing}
use Rattle.crossbeam_queue.specs.declared.array_queue.Slotted.{Slotted}
use Rattle.shred_crew.specs.declared.line.Errand.{Errand}
use Rattle.shred_crew.specs.declared.line.Hand.{Hand}
use Rattle.shred_crew.specs.declared.line.Hand.TheVariants.{Alone, Caller, Worker}
use Rattle.shred_crew.specs.declared.line.Packet.{Packet}
use Rattle.shred_crew.specs.declared.line.Packet.TheVariants.{Ask, Answer}

-- what the caller asked for, as its hand has it
abbrev pub asked_by : {C T : Type 0} → Hand C T → Option (Errand C T)
asked_by Alone = None
asked_by (Caller asked) = asked
asked_by (Worker held) = None

-- the hand of the caller once it has asked for the work in a packet
abbrev pub hand_after : {C T : Type 0} → Packet C T → Hand C T
hand_after (Ask shared row) = Caller (Some (record { shared = arc_value shared; row = row }))
hand_after (Answer row) = Caller None

module _ {C T : Type 0} (does : C → T → T → Type 0) where
  -- each load of what was asked for was worked on
  abbrev pub IsDone : Errand C T → Vec T → Type 0
  IsDone errand row = AllZip (does errand.shared) errand.row.items row.items × (vec_capacity row ≡ vec_capacity errand.row)

  -- a packet has what was asked for, or what became of it
  abbrev pub Serves : Errand C T → Packet C T → Type 0
  Serves errand (Ask shared row) = (arc_value shared ≡ errand.shared) × (row ≡ errand.row)
  Serves errand (Answer row) = IsDone errand row

  -- what lies on a line, by what the caller asked for and what the worker has in hand
  abbrev pub Lies : (asked held : Option (Errand C T)) → List (Packet C T) → Type 0
  Lies None None items = items ≡ []
  Lies None (Some errand) items = ⊥
  Lies (Some errand) None items = (packet : Packet C T) × (items ≡ packet ∷ []) × Serves errand packet
  Lies (Some errand) (Some other) items = (other ≡ errand) × (items ≡ [])

  -- a line has a caller alone, or a caller and a worker who agree on what lies there
  abbrev pub Agree : List (Packet C T) → List (Hand C T) → Type 0
  Agree items hands = ((hands ≡ Alone ∷ []) × (items ≡ []))
      ⊎ ((asked : Option (Errand C T)) × (held : Option (Errand C T)) × (hands ≡ Caller asked ∷ Worker held ∷ []) × Lies asked held items)

-- a grip of a line, on which one packet at most may lie
abbrev pub IsLine : {C T Q A : Type 0} → Slotted (Option (Packet C T)) (Doing (Packet C T) (Hand C T)) Q A → Pass (Packet C T) (Hand C T) → Type 0
IsLine line grip = (ruled_capacity line ≡ 1) × IsPassOf line grip

-- each load of some rows was worked on, and the rows have the room that they had
abbrev pub AreWorkedOn : {T : Type 0} → (T → T → Type 0) → List (Vec T) → List (Vec T) → Type 0
AreWorkedOn does rows after = AllZip (λ row one. AllZip does row.items one.items × (vec_capacity one ≡ vec_capacity row)) rows after

-- what one of the two has in hand, by its grip
abbrev pub hand_of : {C T : Type 0} → Pass (Packet C T) (Hand C T) → Hand C T
hand_of grip = view grip

-- nothing was asked for from some seats
abbrev pub are_idle : {C T : Type 0} → List (Option (Errand C T)) → Bool
are_idle [] = true
are_idle (None ∷ seats) = are_idle seats
are_idle (Some errand ∷ seats) = false

abbrev pub AreIdle : {C T : Type 0} → List (Option (Errand C T)) → Type 0
AreIdle seats = are_idle seats ≡ true
