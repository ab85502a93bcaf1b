-- What contracts see of a cursor that lends the place at each index of a join.
use Rattle.std.specs.Prelude.{ℕ, Bool, List, Option}
use Rattle.std.specs.Borrow.{MutBor}
use Rattle.hibitset_sets.specs.Iter.{left_of}
use Rattle.hibitset_sets.specs.declared.bit_set_like.BitSetLike as set_like
use Rattle.specs_layouts.specs.Masked.{Masked}
use Rattle.specs_join.specs.declared.join.Join as join
use Rattle.specs_storage.specs.declared.entries.EntryCursor.{EntryCursor}

module _ {T R S I H V M : Type 0} {j : join.Ghosts R I H V M} {m : set_like.Ghosts M} where
  -- what the join's items are looked up in
  abbrev pub values_of : EntryCursor T R S I H V M j m → V
  values_of c = c.walk.values

  -- the index at which it is, where it was moved to one
  abbrev pub index_of : EntryCursor T R S I H V M j m → Option ℕ
  index_of c = c.walk.index

  -- the indices that are still to come
  abbrev pub indices_left : (M → ℕ → Bool) → EntryCursor T R S I H V M j m → List ℕ
  indices_left members c = left_of members c.walk.keys

  -- with another storage behind what it was lent
  abbrev pub with_store : EntryCursor T R S I H V M j m → Masked S → EntryCursor T R S I H V M j m
  with_store c store = record c { store = record c.store { now = store } }
