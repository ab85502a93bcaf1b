-- Local systems at their positions, by what their rules say.
use Rattle.std.specs.Prelude.{ℕ, List, map, Option}
use Rattle.shred_world.specs.Bundles.{Holding}
use Rattle.shred_stages.specs.declared.stop.Stop.{Stop}
use Rattle.shred_stages.specs.Runs.{State}
use Rattle.scene_model.specs.Scenes.{PlainSystem}
use Rattle.scene_world.specs.Members.{Members, kinds_by, placed_by, StandBy, ComeBy}
use Rattle.scene_world.specs.declared.placed.Placed.{Placed}
use Rattle.scene_world.specs.declared.value.SceneValue as values
use Rattle.scene_dispatch.specs.Lent.{EachIsLent}
use Rattle.scene_dispatch.specs.Orders.{plain_at}
use Rattle.scene_dispatch.specs.declared.local.PlacedLocal.{PlacedLocal}

module _ {R V D G S : Type 0} (rules : Members R V D G S) where
  -- what local systems are at their positions
  abbrev pub plain_locals : List (PlacedLocal R V D G S) → List PlainSystem
  plain_locals locals = map (placed_by rules).plain (map (λ local. local.placed) locals)

  -- local systems over what is held
  abbrev pub held_by : List (PlacedLocal R V D G S) → Holding V → State V (Placed R V D G S)
  held_by locals w = record { systems = map (λ local. local.placed) locals; held = w }

  module _ (held : values.Ghosts V D) (locals : List (PlacedLocal R V D G S)) where
    -- each declares what it is lent of a scene
    abbrev pub LocalsAreLent : Type 0
    LocalsAreLent = EachIsLent (kinds_by rules held) (plain_locals locals)

    module _ (own : R) (before : Holding V) where
      -- they stand ready over a world in which a scene stands
      abbrev pub LocalsStand : Type 0
      LocalsStand = StandBy rules held own (plain_at (plain_locals locals)) (held_by locals before)

      -- they come, by their turns in their order, to a scene or to the first that stops them
      abbrev pub LocalsCome : Option (ℕ × Stop) → List (PlacedLocal R V D G S) → Holding V → Type 0
      LocalsCome refused left after = ComeBy rules held own (plain_at (plain_locals locals)) (plain_locals locals) (held_by locals before) refused (held_by left after)
