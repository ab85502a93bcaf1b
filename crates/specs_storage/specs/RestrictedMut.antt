-- What contracts see of a storage that is restricted for writing.
use Rattle.std.specs.Borrow.{Bor, MutBor}
use Rattle.specs_entity.specs.Births.{Births}
use Rattle.specs_layouts.specs.Masked.{Masked}
use Rattle.specs_storage.specs.declared.restrict.RestrictedStorageMut.{RestrictedStorageMut}

module _ {T R S : Type 0} where
  -- the entities by which it tells who is alive
  abbrev pub entities_of : RestrictedStorageMut T R S → Bor Births
  entities_of r = r.entities

  -- the storage
  abbrev pub store_of : RestrictedStorageMut T R S → MutBor (Masked S)
  store_of r = r.store
