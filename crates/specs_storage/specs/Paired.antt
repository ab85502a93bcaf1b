-- What contracts see of a storage that is read at an index.
use Rattle.std.specs.Prelude.{ℕ}
use Rattle.std.specs.Borrow.{Bor}
use Rattle.specs_entity.specs.Births.{Births}
use Rattle.specs_layouts.specs.Masked.{Masked}
use Rattle.specs_layouts.specs.declared.unprotected.UnprotectedStorage as unprotected
use Rattle.specs_layouts.specs.declared.unprotected.TryDefault as try_default
use Rattle.specs_storage.specs.declared.restrict.pair.PairedStorage.{PairedStorage}

module _ {T R S : Type 0} {g : unprotected.Ghosts S T} {d : try_default.Ghosts S} where
  -- the entities by which it tells who is alive
  abbrev pub entities_of : PairedStorage T R S g d → Bor Births
  entities_of r = r.entities

  -- the storage
  abbrev pub store_of : PairedStorage T R S g d → Bor (Masked S)
  store_of r = r.store

  -- the index that has a part
  abbrev pub index_of : PairedStorage T R S g d → ℕ
  index_of r = r.index
