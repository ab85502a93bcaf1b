-- The words of contracts over phases and their seats, for crates that stand on this one alone.
pub use Rattle.specs_entity.specs.PhaseCore.{called}
pub use Rattle.specs_entity.specs.PhaseSeats.{StaysIn, births_at, phase_at, view_at}
pub use Rattle.specs_entity.specs.PhaseViews.{LooksAt, joined_view, reserved}
pub use Rattle.specs_entity.specs.SharedPhase.{SharedPhase}
pub use Rattle.specs_entity.specs.SharedSeats.{AreSettled, IsBirth, IsDeletion}
pub use Rattle.specs_entity.specs.declared.phase_rule.EntityView.{EntityView}
pub use Rattle.specs_entity.specs.declared.phase_seat.PhaseSeat.{PhaseSeat}
