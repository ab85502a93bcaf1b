-- What contracts see of a cursor over a storage and a join.
use Rattle.std.specs.Prelude.{◌≡◌, ℕ, Bool, List, Option, Some}
use Rattle.std.specs.Borrow.{MutBor}
use Rattle.specs_layouts.specs.Masked.{Masked}
use Rattle.specs_join.specs.declared.join.cursor.JoinCursor.{JoinCursor}
use Rattle.specs_join.specs.Cursor.{IsReady, IsAt}
use Rattle.specs_join.specs.Steps.{still_shared}

module _ {T R S I H V M : Type 0} where
  -- the storage whose parts it lends
  abbrev pub storage_of : JoinCursor T R S I H V M → MutBor (Masked S)
  storage_of c = c.storage

  -- the join's mask
  abbrev pub mask_of : JoinCursor T R S I H V M → M
  mask_of c = c.mask

  -- what the join's items are looked up in
  abbrev pub values_of : JoinCursor T R S I H V M → V
  values_of c = c.values

  -- the index at which it is, where it was moved to one
  abbrev pub index_of : JoinCursor T R S I H V M → Option ℕ
  index_of c = c.index

  -- the indices that are still to come
  abbrev pub indices_left : (M → ℕ → Bool) → JoinCursor T R S I H V M → List ℕ
  indices_left members c = still_shared members c.storage.now.mask c.mask c.steps

  -- each index to come has a part and an item
  abbrev pub CanGoOn : {A : Type 0} → (M → ℕ → Bool) → (V → ℕ → Option A) → JoinCursor T R S I H V M → Type 0
  CanGoOn members value_at c = IsReady value_at c.storage.now.mask c.values (indices_left members c)

  -- it is at an index that has a part and an item
  abbrev pub StandsAt : {A : Type 0} → (V → ℕ → Option A) → JoinCursor T R S I H V M → ℕ → Type 0
  StandsAt value_at c index = (c.index ≡ Some index) × IsAt value_at c.storage.now.mask c.values index

  -- with a part written at an index
  abbrev pub with_part_written : (S → ℕ → T → S) → JoinCursor T R S I H V M → ℕ → T → JoinCursor T R S I H V M
  with_part_written written c index part = record c { storage = record c.storage { now = record c.storage.now { inner = written c.storage.now.inner index part } } }
