-- The order in which the systems of a scene take their turns: the staged ones in that of their plan, and then the local ones.
use Rattle.std.specs.Prelude.{ℕ, false, List, [], ◌++◌, map, slice_get}
use Rattle.std.specs.Option.{unwrap_or}
use Rattle.serde_json.specs.Data.{null}
use Rattle.shred.specs.Dispatching.{Dispatching}
use Rattle.scene_model.specs.Scenes.{PlainSystem}
use Rattle.scene_world.specs.Chains.{plan_order}

-- what stands at a number at which no system does: it declares nothing
abbrev pub nobody : PlainSystem
nobody = record { position = 0; kind = []; config = null; access = record { reads = []; writes = []; read_globals = []; written_globals = []; reserved = false } }

-- the system at a number
abbrev pub plain_at : List PlainSystem → ℕ → PlainSystem
plain_at systems number = unwrap_or (slice_get systems number) nobody

-- the positions of systems
abbrev pub positions_of : List PlainSystem → List ℕ
positions_of systems = map (λ system. system.position) systems

-- the staged systems in the order of their plan, and then the local ones as they stand
abbrev pub turn_order : {P : Type 0} → (P → PlainSystem) → Dispatching P P → List PlainSystem
turn_order plain systems = plan_order (plain_at (map plain systems.staging.systems)) systems.staging.planning.stages ++ map plain systems.locals
