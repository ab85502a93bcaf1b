-- Seats of a phase: whose they are, and what a call makes of them.
use Rattle.std.specs.Prelude.{◌≡◌, ◌⊎◌, ℕ, ◌<◌, ◌≤◌, List, [], ◌∷◌, ◌++◌, map}
use Rattle.specs_entity.specs.Life.{LifeAt}
use Rattle.specs_entity.specs.Births.{Births, IsAlive, all_created}
use Rattle.specs_entity.specs.declared.ids.Entity.{Entity}
use Rattle.specs_entity.specs.declared.phase_rule.PhaseKey.{PhaseKey}
use Rattle.specs_entity.specs.declared.phase_rule.EntityView.{EntityView}
use Rattle.specs_entity.specs.declared.shared_entities.EntitySeat.{EntitySeat}
use Rattle.specs_entity.specs.PhaseCore.{called, occurrences, once_below}
use Rattle.specs_entity.specs.PhaseViews.{reserved, after_create, after_delete, IsGiven, Knows, LooksAt, all_accepted}
use Rattle.specs_entity.specs.SharedPhase.{SharedPhase}

-- what a seat holds, did and saw
abbrev pub view_of_seat : EntitySeat → EntityView
view_of_seat seat = seat.seat.me.0

-- its births, as entities
abbrev pub births_of_seat : EntitySeat → List LifeAt
births_of_seat seat = seat.known.items

-- the seat came from this phase, and its births are the entities at the places that it claimed
pub record IsSeatOf (phase : SharedPhase) (seat : EntitySeat) : Type 0 where
  pub table : seat.seat.table_id ≡ phase.table_id
  pub parts : 0 < (view_of_seat seat).parts
  pub key : (view_of_seat seat).key ≡ phase.key
  pub births : births_of_seat seat ≡ map (reserved phase.key) (view_of_seat seat).claimer.births

-- a birth: of a place of the reserve that the seat had not claimed
pub record IsBirth (phase : SharedPhase) (before : EntitySeat) (entity : Entity) (after : EntitySeat) : Type 0 where
  pub place : ℕ
  pub word : ℕ
  pub within : place < phase.key.reserve
  pub value : entity ≡ reserved phase.key place
  pub new : occurrences place (view_of_seat before).claimer.births ≡ 0
  pub view : view_of_seat after ≡ after_create (view_of_seat before) place entity.id word
  pub known : births_of_seat after ≡ births_of_seat before ++ entity ∷ []

-- a deletion that is accepted: after at most one look the view lists it
pub record IsDeletion (before : EntityView) (index : ℕ) (after : EntityView) : Type 0 where
  pub between : EntityView
  pub word : ℕ
  pub looks : LooksAt before index between
  pub view : after ≡ after_delete between index word

-- the births at these places are the first so many of the reserve, each once
abbrev pub AreFirst : ℕ → List ℕ → Type 0
AreFirst count births = (place : ℕ) → occurrences place births ≡ once_below place count

-- the entities after so many births of the reserve, and the deletions that the view lists; whoever the view knows was alive at `share` or is one of these births
pub record AreSettled (key : PhaseKey) (view : EntityView) (after : Births) : Type 0 where
  pub claimed : ℕ
  pub most : claimed ≤ key.reserve
  pub births : AreFirst claimed view.claimer.births
  pub entities : after ≡ all_accepted (all_created claimed key.before) (map called view.kill.calls)
  pub known : (entity : Entity) → Knows view entity → IsAlive key.before entity ⊎ IsGiven key claimed entity
