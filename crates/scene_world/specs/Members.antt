-- The members of rules in one record, as a clause has them under `R.Rules`, and what a scene's values and systems mean by them.
use Rattle.std.specs.Prelude.{ℕ, List, Option}
use Rattle.shred_stages.specs.declared.stop.Stop.{Stop}
use Rattle.shred_stages.specs.Runs.{State}
use Rattle.scene_model.specs.Parts.{Json, Name, Part}
use Rattle.scene_model.specs.Rulebook.{Access, Book, Fragment, Outcome}
use Rattle.scene_model.specs.Scenes.{PlainSystem}
use Rattle.scene_world.specs.Standing.{Kinds}
use Rattle.scene_world.specs.Places.{Columns, kinds_of}
use Rattle.scene_world.specs.Turns.{Sense, Meaning, placed_as}
use Rattle.scene_world.specs.Chains.{IsReady, Comes}
use Rattle.scene_world.specs.declared.placed.Placed.{Placed}
use Rattle.scene_world.specs.declared.value.SceneValue as values

-- what rules say of documents, and of a world
abbrev pub Members : (R V D G S : Type 0) → Type 1
Members R V D G S =
    record {
      book : R → Book;
      part_of : D → Part;
      global_of : G → Json;
      kind_of : S → Name;
      config_of : S → Json;
      declared : S → Access;
      said_time : S → ℕ;
      made_by : R → S → Type 0;
      columns : Columns V;
      sense : S → Sense;
      does : S → Fragment → Outcome → Type 0;
    }

module _ {R V D G S : Type 0} (rules : Members R V D G S) where
  -- where the values of a scene stand
  abbrev pub kinds_by : values.Ghosts V D → Kinds V
  kinds_by held = kinds_of held.places rules.part_of rules.columns

  -- what is meant of a system at its position
  abbrev pub placed_by : Meaning (Placed R V D G S)
  placed_by = placed_as (λ placed. placed.position) (λ placed. placed.system) rules.kind_of rules.config_of rules.declared rules.sense rules.does

  module _ (held : values.Ghosts V D) (own : R) (at : ℕ → PlainSystem) where
    -- systems stand ready over a world in which a scene stands
    abbrev pub StandBy : State V (Placed R V D G S) → Type 0
    StandBy = IsReady (kinds_by held) placed_by (rules.book own) at

    -- they come, by their turns in an order, to a scene or to the first that stops them
    abbrev pub ComeBy : List PlainSystem → State V (Placed R V D G S) → Option (ℕ × Stop) → State V (Placed R V D G S) → Type 0
    ComeBy = Comes (kinds_by held) placed_by (rules.book own) at
