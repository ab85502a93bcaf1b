-- What a storage ends as, where a part of it, or the place of one, was lent.
use mir.Syntax.{named}
use Rattle.std.specs.Prelude.{◌≡◌, ℕ, Bool, Option, [], Some, is_some, if◌then◌else◌, Result}
use Rattle.std.specs.Borrow.{Fml, RattleType, MutBor, LendsIfOk, LendsSoOk, RestsIfErr, follows_if, name_if_ok}
use Rattle.specs_layouts.specs.Masked.{Masked}
use Rattle.specs_layouts.specs.MaskedLends.{StorageMembers, layout_ghosts, default_ghosts, masked_row}
use Rattle.specs_layouts.specs.declared.unprotected.UnprotectedStorage as unprotected
use Rattle.specs_layouts.specs.declared.unprotected.TryDefault as try_default
use Rattle.specs_entity.specs.Births.{Births}
use Rattle.specs_layouts.specs.Parts.{Puts, SameParts, told}
use Rattle.specs_layouts.specs.Channels.{Log}
use Rattle.specs_layouts.specs.declared.track.ComponentEvent.{ComponentEvent}
use Rattle.specs_layouts.specs.declared.track.ComponentEvent.TheVariants as event
use Rattle.specs_storage.specs.declared.storage.Storage.{Storage}
use Rattle.specs_storage.specs.declared.entry.OccupiedEntry.{OccupiedEntry}
use Rattle.specs_storage.specs.declared.entry.StorageEntry.{StorageEntry}
use Rattle.specs_storage.specs.declared.entry.StorageEntry.TheVariants.{Occupied, Vacant}
use Rattle.specs_storage.specs.contracts.entry.OccupiedEntry as occupied
use Rattle.specs_storage.specs.StorageLends.{storage_row, with_store}

-- the storage with a part at an index
abbrev pub with_written : {S T : Type 0} → (S → ℕ → T → S) → Masked S → ℕ → T → Masked S
with_written written m index part = record m { inner = written m.inner index part }

-- the storage has the last part that was written, and where none was lent nothing changed
abbrev pub lends_at : (T S : RattleType) → StorageMembers S.Denot T.Denot → MutBor (Masked S.Denot) → ℕ → {E : Type 0} → Result (MutBor T.Denot) E → Fml
lends_at T S g m index r = LendsIfOk (masked_row T S g) T m r (with_written g.written m.now index) m.now

module _ {T S : Type 0} {g : unprotected.Ghosts S T} {d : try_default.Ghosts S} where
  -- the storage of an entry
  abbrev pub store_of : StorageEntry T S g d → MutBor (Masked S)
  store_of (Occupied entry) = entry.store
  store_of (Vacant entry) = entry.store

  -- the index of an entry
  abbrev pub id_of : StorageEntry T S g d → ℕ
  id_of (Occupied entry) = entry.id
  id_of (Vacant entry) = entry.id

-- each index has the part that it had, and nothing was told
pub record IsLeft {S T : Type 0} (g : StorageMembers S T) (before after : Masked S) : Type 0 where
  pub parts : SameParts (g.part_at before.inner) (g.part_at after.inner)
  pub events : g.events after.inner ≡ g.events before.inner
  pub emission : g.emits after.inner ≡ g.emits before.inner

-- where there is no entry, each index has the part that it had, and nothing was told
abbrev pub rests_if_refused : (T S : RattleType) (g : StorageMembers S.Denot T.Denot) → MutBor (Masked S.Denot) → {E : Type 0} → Result (OccupiedEntry T.Denot S.Denot (layout_ghosts g) (default_ghosts g)) E → Fml
rests_if_refused T S g m r = RestsIfErr (masked_row T S g) m (λ entry. entry.store.ghost_name) r (IsLeft g m.now)

-- the parts are those that were left through their entry, and where there is no entry nothing changed
abbrev pub lends_open : (T S : RattleType) (g : StorageMembers S.Denot T.Denot) → MutBor (Masked S.Denot) → {E : Type 0} → Result (StorageEntry T.Denot S.Denot (layout_ghosts g) (default_ghosts g)) E → Fml
lends_open T S g m r = follows_if (masked_row T S g) (masked_row T S g) m.ghost_name (name_if_ok (λ entry. (store_of entry).ghost_name) r) (λ left. left) m.now

-- the storage has the parts that were left through the entry, and where there is no entry nothing changed
abbrev pub lends_entry : (T S : RattleType) (g : StorageMembers S.Denot T.Denot) → MutBor (Storage T.Denot (MutBor (Masked S.Denot))) → {E : Type 0} → Result (StorageEntry T.Denot S.Denot (layout_ghosts g) (default_ghosts g)) E → Fml
lends_entry T S g m r = follows_if (storage_row T S g) (masked_row T S g) m.ghost_name (name_if_ok (λ entry. (store_of entry).ghost_name) r) (with_store m.now) m.now

-- the place is that of the same index, in the same storage, which has the last part that was written
pub record WritesAt {T S : Type 0} {g : unprotected.Ghosts S T} {d : try_default.Ghosts S} (before : OccupiedEntry T S g d) (part : T) (after : OccupiedEntry T S g d) : Type 0 where
  pub same_reference : after.store.ghost_name ≡ before.store.ghost_name
  pub store : after.store.now ≡ with_written g.written before.store.now before.id part
  pub id : after.id ≡ before.id

-- the place is that of the same index, in the same storage, in which nothing changed
pub record StaysAt {T S : Type 0} {g : unprotected.Ghosts S T} {d : try_default.Ghosts S} (before after : OccupiedEntry T S g d) : Type 0 where
  pub same_reference : after.store.ghost_name ≡ before.store.ghost_name
  pub store : after.store.now ≡ before.store.now
  pub id : after.id ≡ before.id

-- the place has the last part that was written, and where none was lent it stays; the lifetime of its type is the second of the signature
abbrev pub lends_there : (T S : RattleType) {g : unprotected.Ghosts S.Denot T.Denot} {d : try_default.Ghosts S.Denot} → MutBor (OccupiedEntry T.Denot S.Denot g d) → {E : Type 0} → Result (MutBor T.Denot) E → Fml
lends_there T S {g} {d} m r = LendsSoOk (occupied.the_row (record { mir = named 1; lft = [] }) T S g d) T m r (λ after part. WritesAt m.now part after) (StaysAt m.now)

-- the events after the part at an index was lent, which was put first where none was there
abbrev pub told_settled : {T : Type 0} → Bool → Log ComponentEvent → Option T → ℕ → Log ComponentEvent
told_settled emits events part index = told emits (if is_some part then events else told emits events (event.Inserted index)) (event.Modified index)

module _ {S T : Type 0} (g : StorageMembers S T) (before : Masked S) (index : ℕ) where
  -- a part was put at an index that had none, and then lent
  pub record IsFilled (part : T) (after : Masked S) : Type 0 where
    pub parts : Puts (g.part_at before.inner) index (Some part) (g.part_at after.inner)
    pub events : g.events after.inner ≡ told (g.emits before.inner) (told (g.emits before.inner) (g.events before.inner) (event.Inserted index)) (event.Modified index)
    pub emission : g.emits after.inner ≡ g.emits before.inner

  -- an index has the part that was lent last, which was put first where none was there
  pub record IsSettled (part : T) (after : Masked S) : Type 0 where
    pub parts : Puts (g.part_at before.inner) index (Some part) (g.part_at after.inner)
    pub events : g.events after.inner ≡ told_settled (g.emits before.inner) (g.events before.inner) (g.part_at before.inner index) index
    pub emission : g.emits after.inner ≡ g.emits before.inner

-- the storage has the last part that was written, and where none was lent each index has what it had
abbrev pub lends_put : (T S : RattleType) → StorageMembers S.Denot T.Denot → MutBor (Masked S.Denot) → ℕ → {E : Type 0} → Result (MutBor T.Denot) E → Fml
lends_put T S g m index r = LendsSoOk (masked_row T S g) T m r (λ after part. IsFilled g m.now index part after) (IsLeft g m.now)

-- the same of a storage that may have a part there
abbrev pub lends_or : (T S : RattleType) → StorageMembers S.Denot T.Denot → MutBor (Masked S.Denot) → ℕ → {E : Type 0} → Result (MutBor T.Denot) E → Fml
lends_or T S g m index r = LendsSoOk (masked_row T S g) T m r (λ after part. IsSettled g m.now index part after) (IsLeft g m.now)

module _ {S T : Type 0} (births : S → Births) (parts : S → ℕ → Option T) (emits : S → Bool) (events : S → Log ComponentEvent) (before : S) where
  -- an index of a storage, of which these are told, has the part that was lent last, which was put first where none was there
  pub record SettlesAt (index : ℕ) (part : T) (after : S) : Type 0 where
    pub parts_after : Puts (parts before) index (Some part) (parts after)
    pub births_after : births after ≡ births before
    pub emits_after : emits after ≡ emits before
    pub events_after : events after ≡ told_settled (emits before) (events before) (parts before index) index

  -- each index has what it had, and nothing was told
  pub record IsLeftAs (after : S) : Type 0 where
    pub parts_after : SameParts (parts before) (parts after)
    pub births_after : births after ≡ births before
    pub emits_after : emits after ≡ emits before
    pub events_after : events after ≡ events before
