-- What contracts see of a cursor that lends a storage at each index that it shares with a join.
use Rattle.std.specs.Prelude.{◌≡◌, ℕ, Bool, List, Option, Some}
use Rattle.std.specs.Borrow.{Bor, MutBor}
use Rattle.specs_entity.specs.Births.{Births}
use Rattle.specs_layouts.specs.Masked.{Masked}
use Rattle.specs_join.specs.Cursor.{IsReady, IsAt}
use Rattle.specs_join.specs.Steps.{still_shared}
use Rattle.specs_storage.specs.declared.restrict.cursor.PairCursor.{PairCursor}

module _ {T R S I H V M : Type 0} where
  -- the entities by which it tells who is alive
  abbrev pub entities_of : PairCursor T R S I H V M → Bor Births
  entities_of c = c.entities

  -- the storage
  abbrev pub store_of : PairCursor T R S I H V M → MutBor (Masked S)
  store_of c = c.store

  -- the join's mask
  abbrev pub mask_of : PairCursor T R S I H V M → M
  mask_of c = c.mask

  -- what the join's items are looked up in
  abbrev pub values_of : PairCursor T R S I H V M → V
  values_of c = c.values

  -- the index at which it is, where it was moved to one
  abbrev pub index_of : PairCursor T R S I H V M → Option ℕ
  index_of c = c.index

  -- the indices that are still to come
  abbrev pub indices_left : (M → ℕ → Bool) → PairCursor T R S I H V M → List ℕ
  indices_left members c = still_shared members c.store.now.mask c.mask c.steps

  -- each index to come has a part and an item
  abbrev pub CanGoOn : {A : Type 0} → (M → ℕ → Bool) → (V → ℕ → Option A) → PairCursor T R S I H V M → Type 0
  CanGoOn members value_at c = IsReady value_at c.store.now.mask c.values (indices_left members c)

  -- it is at an index that has a part and an item
  abbrev pub StandsAt : {A : Type 0} → (V → ℕ → Option A) → PairCursor T R S I H V M → ℕ → Type 0
  StandsAt value_at c index = (c.index ≡ Some index) × IsAt value_at c.store.now.mask c.values index

  -- with another storage behind what it was lent
  abbrev pub with_store : PairCursor T R S I H V M → Masked S → PairCursor T R S I H V M
  with_store c store = record c { store = record c.store { now = store } }

  -- with a part written at an index
  abbrev pub with_part_written : (S → ℕ → T → S) → PairCursor T R S I H V M → ℕ → T → PairCursor T R S I H V M
  with_part_written written c index part = with_store c (record c.store.now { inner = written c.store.now.inner index part })
