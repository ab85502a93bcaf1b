-- Seats of phases that systems hold: what keeps each in its phase.
use Rattle.std.specs.Prelude.{◌≡◌, Option, Some}
use Rattle.std.specs.Option.{option_and_then}
use Rattle.shred_world.specs.declared.resource_id.ResourceId.{ResourceId}
use Rattle.shred_world.specs.Bundles.{Slot, Holding, takable}
use Rattle.shred_stages.specs.declared.stop.Stop.{Stop}
use Rattle.specs_entity.specs.declared.phase_seat.PhaseSeat.{PhaseSeat}
use Rattle.specs_entity.specs.PhaseSeats.{StaysIn}

-- the seat that a value holds, where it may be taken out of a slot
abbrev pub seat_in : {V : Type 0} → (V → Option PhaseSeat) → Slot V → Option PhaseSeat
seat_in part slot = option_and_then part (takable slot)

-- where a seat stood one of the same phase stands
abbrev pub StaysSeated : {V : Type 0} → (V → Option PhaseSeat) → Slot V → Slot V → Type 0
StaysSeated part before after = (seat : PhaseSeat) → seat_in part before ≡ Some seat → (seat_after : PhaseSeat) × (seat_in part after ≡ Some seat_after) × StaysIn seat seat_after

-- whatever systems of a kind do with what they are lent, and whether they refuse or not, they leave each seat in its phase
abbrev pub KeepPhases : {V S : Type 0} → (V → Option PhaseSeat) → (S → Holding V → Option Stop → S → Holding V → Type 0) → Type 0
KeepPhases {V} {S} part meets =
    (system system_after : S) (seen left : Holding V) (refused : Option Stop) → meets system seen refused system_after left → (id : ResourceId) → StaysSeated part (seen id) (left id)
