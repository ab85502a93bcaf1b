-- The words of contracts over storages and joins, for crates that stand on this one alone.
pub use Rattle.hibitset_sets.specs.BitSet.{SetWithRoom, has_member}
pub use Rattle.hibitset_sets.specs.BitSetEq.{both_ways}
pub use Rattle.hibitset_sets.specs.Iter.{left_of}
pub use Rattle.hibitset_sets.specs.Walk.{walk}
pub use Rattle.specs_entity.specs.Births.{Births, allocated, created, deleted, indices_of, is_named, living, living_of, merged, newborn, none_born}
pub use Rattle.specs_entity.specs.Life.{Life, LifeAt}
pub use Rattle.specs_entity.specs.declared.ids.Entity.{Entity}
pub use Rattle.specs_join.specs.ChangeEach.{AreChanged, after}
pub use Rattle.specs_join.specs.Cursors.{CanGoOn, indices_left}
pub use Rattle.specs_join.specs.Joining.{items_left}
pub use Rattle.specs_join.specs.Joins.{join_list, values_at}
pub use Rattle.specs_layouts.specs.Channels.{Log}
pub use Rattle.specs_layouts.specs.Dense.{dense_part}
pub use Rattle.specs_layouts.specs.DropLemmas.{dropped-parts, drops-append, drops-none}
pub use Rattle.specs_layouts.specs.Drops.{ids_of, without, without_all}
pub use Rattle.specs_layouts.specs.Masked.{Masked}
pub use Rattle.specs_layouts.specs.MaskedChanges.{KeepsParts, PutsIn}
pub use Rattle.specs_layouts.specs.MaskedLends.{StorageMembers}
pub use Rattle.specs_layouts.specs.Parts.{HasNone, Puts, SameParts}
pub use Rattle.specs_layouts.specs.Slots.{slot_at, slots_of}
pub use Rattle.specs_layouts.specs.Flagged.{Flagged, tells}
pub use Rattle.specs_layouts.specs.Flags.{flag_part}
pub use Rattle.specs_layouts.specs.declared.flagged.FlaggedStorage.{FlaggedStorage}
pub use Rattle.specs_layouts.specs.declared.storages.btree.BTreeStorage.{BTreeStorage}
pub use Rattle.specs_layouts.specs.declared.storages.default_vec.DefaultVecStorage.{DefaultVecStorage}
pub use Rattle.specs_layouts.specs.declared.storages.dense_vec.DenseVecStorage.{DenseVecStorage}
pub use Rattle.specs_layouts.specs.declared.storages.hash_map.HashMapStorage.{HashMapStorage}
pub use Rattle.specs_layouts.specs.declared.storages.null.NullStorage.{NullStorage}
pub use Rattle.specs_layouts.specs.declared.storages.vec.VecStorage.{VecStorage}
pub use Rattle.specs_layouts.specs.declared.track.ComponentEvent.{ComponentEvent}
