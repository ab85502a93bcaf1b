-- Two turns of drift.
use Rattle.std.specs.Prelude.{◌≡◌, ℕ, List, [], ◌∷◌}
use Rattle.serde_json.specs.Data.{null}
use Rattle.scene_model.specs.declared.refusals.FrameRefusal.{FrameRefusal}
use Rattle.scene_model.specs.declared.refusals.FrameRefusal.TheVariants.{System, GoneReference, IdsSpent, IndicesSpent, GenerationsSpent, TooManyCommands, Memory, Threads}
use Rattle.scene_model.specs.Scenes.{PlainScene, PlainSystem}
use Rattle.scene_world.specs.Standing.{Kinds}
use Rattle.scene_world.specs.Places.{kinds_of}
use Rattle.scene_world.specs.Turns.{Meaning, sense_of}
use Rattle.scene_cases.specs.Drifting.{counting, drift_name, drift_access, drifting_book, drifting_columns, drifting_places, Drifts, moved_part, pos_name, vel_name}
use Rattle.scene_cases.specs.declared.turns.values.Value.{Value}

-- where the values of the scene stand
abbrev pub drifting_kinds : Kinds Value
drifting_kinds = kinds_of drifting_places counting drifting_columns

-- drift at a position
abbrev pub drift_at : ℕ → PlainSystem
drift_at position = record { position = position; kind = drift_name; config = null; access = drift_access }

-- what is meant of what holds drift at a position
abbrev pub drift_meaning : {P : Type 0} → (P → ℕ) → Meaning P
drift_meaning position = record {
  is_system = λ placed. Unit {0};
  plain = λ placed. drift_at (position placed);
  sense = λ placed. sense_of drifting_book;
  does = λ placed. Drifts;
}

-- drift at the positions 1 and 2
abbrev pub two_drifts : List PlainSystem
two_drifts = drift_at 1 ∷ drift_at 2 ∷ []

-- each position gained the velocity of its entity twice
pub record DriftsTwice (scene after : PlainScene) : Type 0 where
  pub ids : after.ids ≡ scene.ids
  pub positions : (id : ℕ) → after.part id pos_name ≡ moved_part (moved_part (scene.part id pos_name) (scene.part id vel_name)) (scene.part id vel_name)
  pub velocities : (id : ℕ) → after.part id vel_name ≡ scene.part id vel_name

-- memory or a thread was wanting
abbrev pub IsWant : FrameRefusal → Type 0
IsWant (System position text) = ⊥
IsWant (GoneReference id) = ⊥
IsWant IdsSpent = ⊥
IsWant IndicesSpent = ⊥
IsWant GenerationsSpent = ⊥
IsWant TooManyCommands = ⊥
IsWant Memory = Unit {0}
IsWant Threads = Unit {0}
