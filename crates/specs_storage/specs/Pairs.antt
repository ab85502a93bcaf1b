-- What a pair ends as, where a part of its storage was lent.
use mir.Syntax.{named}
use Rattle.std.specs.Prelude.{◌≡◌, ℕ, [], Option, Some, None, is_some, if◌then◌else◌, Result}
use Rattle.specs_entity.specs.Births.{Births}
use Rattle.std.specs.Borrow.{Fml, RattleType, MutBor, LendsSoOk}
use Rattle.specs_layouts.specs.Masked.{Masked}
use Rattle.specs_layouts.specs.declared.unprotected.UnprotectedStorage as unprotected
use Rattle.specs_layouts.specs.declared.unprotected.TryDefault as try_default
use Rattle.specs_storage.specs.EntryLends.{with_written}
use Rattle.specs_storage.specs.declared.restrict.pair.PairedStorageMut.{PairedStorageMut}
use Rattle.specs_storage.specs.contracts.restrict.pair.PairedStorageMut as paired

module _ {T S : Type 0} {g : unprotected.Ghosts S T} {d : try_default.Ghosts S} (before : PairedStorageMut T S g d) where
  -- the pair is that of the same index, in the same storage, which has the last part that was written at an index
  pub record WritesAt (at : ℕ) (part : T) (after : PairedStorageMut T S g d) : Type 0 where
    pub same_reference : after.store.ghost_name ≡ before.store.ghost_name
    pub store : after.store.now ≡ (record before.store.now { inner = g.written before.store.now.inner at part })
    pub index : after.index ≡ before.index
    pub entities : after.entities ≡ before.entities

  -- the pair is that of the same index, in the same storage, in which nothing changed
  pub record Stays (after : PairedStorageMut T S g d) : Type 0 where
    pub same_reference : after.store.ghost_name ≡ before.store.ghost_name
    pub store : after.store.now ≡ before.store.now
    pub index : after.index ≡ before.index
    pub entities : after.entities ≡ before.entities

-- the pair's storage has the last part that was written, and where none was lent it stays; the lifetime of its type is the second of the signature
abbrev pub lends_pair : (T S : RattleType) {g : unprotected.Ghosts S.Denot T.Denot} {d : try_default.Ghosts S.Denot} → MutBor (PairedStorageMut T.Denot S.Denot g d) → ℕ → {E : Type 0} → Result (MutBor T.Denot) E → Fml
lends_pair T S {g} {d} m index r =
    LendsSoOk (paired.the_row (record { mir = named 1; lft = [] }) T S g d) T m r (λ after part. WritesAt m.now index part after) (Stays m.now)

-- what a pair shows at an index that has a part: the births of the entities, the parts with their mask, and the index
abbrev pub shown_at : {T S : Type 0} → (S → ℕ → Option T) → Births → Masked S → ℕ → Option (Births × Masked S × ℕ)
shown_at part_at births parts index = if is_some (part_at parts.inner index) then Some (births, parts, index) else None
