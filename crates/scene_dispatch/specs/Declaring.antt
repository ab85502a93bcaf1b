-- Systems of a scene by the ids that a dispatcher is told, and by the resources that the planner of a document is told.
use Rattle.std.specs.Prelude.{◌≡◌, ℕ, map}
use Rattle.shred_world.specs.declared.resource_id.ResourceId.{ResourceId}
use Rattle.shred_plan.specs.Plan.{Placing}
use Rattle.scene_model.specs.Rulebook.{Access}
use Rattle.scene_document.specs.Openings.{Resource, reads_of, writes_of}
use Rattle.scene_world.specs.Standing.{Kinds}
use Rattle.scene_world.specs.Lent.{id_of_place, read_places, written_places}

-- both say of a system at a position what it declares, the one by resources, the other by the ids of what it is lent
pub record DeclareOne {V : Type 0} (kinds : Kinds V) (access : Access) (position : ℕ) (one : Placing Resource) (other : Placing ResourceId) : Type 0 where
  pub reads : one.reads ≡ reads_of access
  pub writes : one.writes ≡ writes_of access
  pub read_ids : other.reads ≡ map (id_of_place kinds) (read_places access)
  pub written_ids : other.writes ≡ map (id_of_place kinds) (written_places access position)
