-- The words of contracts over worlds of entities, for crates that stand on this one alone.
pub use Rattle.shred_world.specs.Bundles.{Holding, Slot, absent, holding_of, is_listed, out, owned, readable, shared, slot_of, takable, with_slot}
pub use Rattle.shred_world.specs.Leaving.{Leaves}
pub use Rattle.shred_world.specs.ResourceIds.{id_of, same_id}
pub use Rattle.shred_world.specs.Worlds.{Slots, is_of_kinds, resource_at, value_at}
pub use Rattle.shred_world.specs.declared.resource_id.ResourceId.{ResourceId}
pub use Rattle.specs_world.specs.Dropping.{Deletes, DeletesIn, MergesIn, SlotDrops}
pub use Rattle.specs_world.specs.Inserting.{PutsPart}
pub use Rattle.specs_world.specs.Maintaining.{Maintains, without_entities}
pub use Rattle.specs_world.specs.Queues.{JobsRun, none_ran}
pub use Rattle.specs_world.specs.Resources.{Allocates, Becomes, IsBirth, Place, Registers, held, place}
pub use Rattle.specs_world.specs.Variants.{DropsWithin, stays-append, stays-parts, within-append, within-none, within-parts}
pub use Rattle.specs_world.specs.declared.job.Insert.{Insert}
pub use Rattle.specs_world.specs.declared.job.InsertAll.{InsertAll}
pub use Rattle.specs_world.specs.declared.job.Remove.{Remove}
pub use Rattle.specs_world.specs.declared.maintained.Maintained.{Maintained}
pub use Rattle.specs.specs.Turning.{BirthThen, InTurn}
