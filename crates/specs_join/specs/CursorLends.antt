-- What a cursor ends as, where the part at its index was lent.
use mir.Syntax.{named}
use Rattle.std.specs.Prelude.{[], Result, unwrap_or}
use Rattle.std.specs.Borrow.{Fml, RattleType, MutBor, LendsIfOk}
use Rattle.specs_layouts.specs.MaskedLends.{StorageMembers, layout_ghosts, default_ghosts}
use Rattle.specs_join.specs.Cursors.{with_part_written}
use Rattle.specs_join.specs.declared.join.cursor.JoinCursor.{JoinCursor}
use Rattle.specs_join.specs.contracts.join.cursor.JoinCursor.{the_row}

module _ (T R S I H V M : RattleType) (g : StorageMembers S.Denot T.Denot) where
  -- the type of a cursor; its lifetime is the second of the signature
  abbrev pub cursor_row : RattleType
  cursor_row = the_row (record { mir = named 1; lft = [] }) T R S I H V M (layout_ghosts g) (default_ghosts g)

  -- the part at the index is the last that was written, and where none was lent nothing changed
  abbrev pub lends_values : MutBor (JoinCursor T.Denot R.Denot S.Denot I.Denot H.Denot V.Denot M.Denot) → {E : Type 0} → Result (MutBor T.Denot) E → Fml
  lends_values c r = LendsIfOk cursor_row T c r (with_part_written g.written c.now (unwrap_or c.now.index 0)) c.now
