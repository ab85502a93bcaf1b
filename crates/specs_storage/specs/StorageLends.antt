-- What a storage ends as, where a part of it was lent, or all of them.
use mir.Syntax.{named}
use denote.Ref.{MutRef}
use Rattle.std.specs.Prelude.{ℕ, [], Result}
use Rattle.std.specs.Borrow.{Fml, RattleType, MutBor, Lends, LendsIfOk}
use Rattle.specs_layouts.specs.Channels.{Channel}
use Rattle.specs_layouts.specs.Masked.{Masked}
use Rattle.specs_layouts.specs.declared.track.ComponentEvent.{ComponentEvent}
use Rattle.specs_layouts.specs.MaskedLends.{StorageMembers, masked_row}
use Rattle.specs_layouts.specs.TrackedLends.{channel_row}
use Rattle.specs_storage.specs.declared.storage.Storage.{Storage}
use Rattle.specs_storage.specs.contracts.storage.Storage as storage

-- the type of a storage that is lent for writing; its lifetime is the second of the signature
abbrev pub storage_row : (T S : RattleType) → StorageMembers S.Denot T.Denot → RattleType
storage_row T S g = storage.the_row (record { mir = named 1; lft = [] }) T (MutRef (named 1) [] (masked_row T S g))

-- the storage with other parts
abbrev pub with_store : {S T : Type 0} → Storage T (MutBor (Masked S)) → Masked S → Storage T (MutBor (Masked S))
with_store s store = record s { store = record s.store { now = store } }

-- the storage with a part at an index
abbrev pub with_part : {S T : Type 0} → (S → ℕ → T → S) → Storage T (MutBor (Masked S)) → ℕ → T → Storage T (MutBor (Masked S))
with_part written s index part = with_store s (record s.store.now { inner = written s.store.now.inner index part })

-- the storage has the last part that was written, and where none was lent nothing changed
abbrev pub lends_part : (T S : RattleType) → StorageMembers S.Denot T.Denot → MutBor (Storage T.Denot (MutBor (Masked S.Denot))) → ℕ → {E : Type 0} → Result (MutBor T.Denot) E → Fml
lends_part T S g m index r = LendsIfOk (storage_row T S g) T m r (with_part g.written m.now index) m.now

-- the storage has the parts that were left
abbrev pub lends_store : (T S : RattleType) → StorageMembers S.Denot T.Denot → MutBor (Storage T.Denot (MutBor (Masked S.Denot))) → MutBor (Masked S.Denot) → Fml
lends_store T S g m r = Lends (storage_row T S g) (masked_row T S g) m r (with_store m.now)

-- the storage has the channel that was written
abbrev pub lends_channel : (T S : RattleType) → StorageMembers S.Denot T.Denot → (S.Denot → Channel ComponentEvent → S.Denot) → MutBor (Storage T.Denot (MutBor (Masked S.Denot))) → MutBor (Channel ComponentEvent) → Fml
lends_channel T S g put m r =
    Lends (storage_row T S g) channel_row m r
    (λ c. with_store m.now (record m.now.store.now { inner = put m.now.store.now.inner c }))
