-- What a step of tiring makes of what a holder has.
use Rattle.std.specs.Prelude.{◌≡◌, ℕ, ◌-◌, nat_lt, Option, Some, None, if◌then◌else◌}
use Rattle.shred_world.specs.declared.resource_id.ResourceId.{ResourceId}
use Rattle.shred_world.specs.ResourceIds.{id_of}
use Rattle.shred_world.specs.Bundles.{Holding, readable, owned, with_slot}
use Rattle.specs_layouts.specs.Dense.{dense_part}
use Rattle.specs_layouts.specs.Slots.{slot_at, slots_of}
use Rattle.specs_join.specs.ChangeEach.{AreChanged}
use Rattle.world_cases.specs.declared.values.Health.{Health}
use Rattle.world_cases.specs.declared.values.Speed.{Speed}
use Rattle.world_cases.specs.declared.values.Value.{Value}
use Rattle.world_cases.specs.declared.values.Value.TheVariants.{HealthValue, SpeedValue}
use Rattle.world_cases.specs.Values.{Healths, Speeds}

-- the ids of the two storages
abbrev pub health_id : ResourceId
health_id = id_of 2 0

abbrev pub speed_id : ResourceId
speed_id = id_of 3 0

-- the health and the speed at an index
abbrev pub health_at : Healths → ℕ → Option Health
health_at storage index = slot_at (slots_of storage.inner) index

abbrev pub speed_at : Speeds → ℕ → Option Speed
speed_at storage index = dense_part storage.inner index

-- a health less a speed, where it isn't less
abbrev pub tired : Health → Speed → Option Health
tired health speed = if nat_lt health.0 speed.0 then None else Some (record { 0 = health.0 - speed.0 })

-- each health has lost the speed at its index, and nothing else changed
pub record Tires (seen left : Holding Value) : Type 0 where
  pub healths : Healths
  pub speeds : Speeds
  pub after : Healths
  pub written : seen health_id ≡ owned (HealthValue healths)
  pub read : readable (seen speed_id) ≡ Some (SpeedValue speeds)
  pub parts : AreChanged tired (health_at healths) (speed_at speeds) (health_at after)
  pub others : left ≡ with_slot seen health_id (owned (HealthValue after))
