-- Seats of a phase that hold its entities too, as systems hold them.
use Rattle.std.specs.Prelude.{◌≡◌, List}
use Rattle.std.specs.Arc.{arc_value}
use Rattle.specs_entity.specs.Life.{LifeAt}
use Rattle.specs_entity.specs.declared.phase_rule.EntityView.{EntityView}
use Rattle.specs_entity.specs.declared.phase_seat.PhaseSeat.{PhaseSeat}
use Rattle.specs_entity.specs.PhaseViews.{whole_view}
use Rattle.specs_entity.specs.SharedPhase.{SharedPhase}
use Rattle.specs_entity.specs.SharedSeats.{view_of_seat, births_of_seat}

-- the phase: its table, and what it began with
abbrev pub phase_at : PhaseSeat → SharedPhase
phase_at seat = arc_value seat.phase

-- what the seat holds, did and saw
abbrev pub view_at : PhaseSeat → EntityView
view_at seat = view_of_seat seat.seat

-- its births, as entities
abbrev pub births_at : PhaseSeat → List LifeAt
births_at seat = births_of_seat seat.seat

-- a call leaves the seat in its phase
abbrev pub StaysIn : PhaseSeat → PhaseSeat → Type 0
StaysIn before after = phase_at after ≡ phase_at before
