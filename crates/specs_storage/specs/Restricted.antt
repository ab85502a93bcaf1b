-- What contracts see of a storage that is restricted for reading.
use Rattle.std.specs.Borrow.{Bor}
use Rattle.specs_entity.specs.Births.{Births}
use Rattle.specs_layouts.specs.Masked.{Masked}
use Rattle.specs_storage.specs.declared.restrict.RestrictedStorage.{RestrictedStorage}

module _ {T R S : Type 0} where
  -- the entities by which it tells who is alive
  abbrev pub entities_of : RestrictedStorage T R S → Bor Births
  entities_of r = r.entities

  -- the storage
  abbrev pub store_of : RestrictedStorage T R S → Bor (Masked S)
  store_of r = r.store
