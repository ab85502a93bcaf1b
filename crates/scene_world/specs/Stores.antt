-- The parts in a storage of one of the kinds of store.
use Rattle.std.specs.Prelude.{ℕ, Option}
use Rattle.specs_layouts.specs.Slots.{slots_of, slot_at, with_part}
use Rattle.specs_layouts.specs.Dense.{dense_part, with_dense_part}
use Rattle.specs_layouts.specs.Entries.{table_part, with_table_part, tree_part, with_tree_part}
use Rattle.scene_model.specs.declared.store.Store.{Store}
use Rattle.scene_model.specs.declared.store.Store.TheVariants as store
use Rattle.scene_world.specs.declared.any_store.AnyStore.{AnyStore}
use Rattle.scene_world.specs.declared.any_store.AnyStore.TheVariants.{Vec, Dense, Hash, BTree}

-- the layout in which the parts lie
abbrev pub store_of : {T : Type 0} → AnyStore T → Store
store_of (Vec s) = store.Vec
store_of (Dense s) = store.Dense
store_of (Hash s) = store.Hash
store_of (BTree s) = store.BTree

-- the part at an index, as its layout has it
abbrev pub store_part : {T : Type 0} → AnyStore T → ℕ → Option T
store_part (Vec s) = slot_at (slots_of s)
store_part (Dense s) = dense_part s
store_part (Hash s) = table_part s
store_part (BTree s) = tree_part s

-- the storage with a part at an index, in the same layout
abbrev pub with_store_part : {T : Type 0} → AnyStore T → ℕ → T → AnyStore T
with_store_part (Vec s) index part = Vec (with_part s index part)
with_store_part (Dense s) index part = Dense (with_dense_part s index part)
with_store_part (Hash s) index part = Hash (with_table_part s index part)
with_store_part (BTree s) index part = BTree (with_tree_part s index part)
