-- What a cursor that lends a storage ends as, where the storage was lent, or one of its parts.
use mir.Syntax.{named}
use Rattle.std.specs.Prelude.{ℕ, [], Result}
use Rattle.std.specs.Borrow.{Fml, RattleType, MutBor, Lends, LendsIfOk}
use Rattle.specs_layouts.specs.Masked.{Masked}
use Rattle.specs_layouts.specs.MaskedLends.{StorageMembers, layout_ghosts, default_ghosts, masked_row}
use Rattle.specs_storage.specs.PairCursors.{with_store, with_part_written}
use Rattle.specs_storage.specs.declared.restrict.cursor.PairCursor.{PairCursor}
use Rattle.specs_storage.specs.contracts.restrict.cursor.PairCursor.{the_row}

module _ (T R S I H V M : RattleType) (g : StorageMembers S.Denot T.Denot) where
  -- the type of a cursor; its lifetime is the second of the signature
  abbrev pub cursor_row : RattleType
  cursor_row = the_row (record { mir = named 1; lft = [] }) T R S I H V M (layout_ghosts g) (default_ghosts g)

  -- the cursor has the storage that came back
  abbrev pub lends_store : MutBor (PairCursor T.Denot R.Denot S.Denot I.Denot H.Denot V.Denot M.Denot) → MutBor (Masked S.Denot) → Fml
  lends_store c store = Lends cursor_row (masked_row T S g) c store (with_store c.now)

  -- the part at an index is the last that was written, and where none was lent nothing changed
  abbrev pub lends_part : MutBor (PairCursor T.Denot R.Denot S.Denot I.Denot H.Denot V.Denot M.Denot) → ℕ → {E : Type 0} → Result (MutBor T.Denot) E → Fml
  lends_part c index r = LendsIfOk cursor_row T c r (with_part_written g.written c.now index) c.now
