-- What a storage of any kind has after a write.
use Rattle.std.specs.Prelude.{ℕ, Some, IsSome}
use Rattle.specs_layouts.specs.Parts.{Puts}
use Rattle.specs_layouts.specs.SlotLemmas.{with_part-puts}
use Rattle.specs_layouts.specs.DenseLemmas.{with_dense_part-puts}
use Rattle.specs_layouts.specs.EntryLemmas.{with_table_part-puts, with_tree_part-puts}
use Rattle.scene_world.specs.declared.any_store.AnyStore.{AnyStore}
use Rattle.scene_world.specs.declared.any_store.AnyStore.TheVariants.{Vec, Dense, Hash, BTree}
use Rattle.scene_world.specs.Stores.{store_part, with_store_part}

-- what was written is there, and no other part changed
pub with_store_part-puts : {T : Type 0} (s : AnyStore T) (index : ℕ) (part : T) → IsSome (store_part s index) → Puts (store_part s) index (Some part) (store_part (with_store_part s index part))
with_store_part-puts (Vec s) index part there = with_part-puts s index part there
with_store_part-puts (Dense s) index part there = with_dense_part-puts s index part there
with_store_part-puts (Hash s) index part there = with_table_part-puts s index part there
with_store_part-puts (BTree s) index part there = with_tree_part-puts s index part there
