use Rattle.std.proofs.Common.{List, subst}
use Rattle.std.specs.List.{flat_map}
use Rattle.std.specs.Io.KnownBytes.{Appends}
use Rattle.std.proofs.lemmas.List.{take_all}
use Rattle.scene_basics.specs.declared.lines.Piece.{Piece}
use Rattle.scene_basics.specs.Lines.{piece_text}
use Rattle.scene_basics.proofs.LineLemmas.{Tells-part, Tells-all}
use Rattle.scene_basics.proofs.lines.write_pieces.Goals as goal

-- the writer failed in one piece
pub returns-in-Err : goal.returns-in-Err
returns-in-Err g c = Tells-part piece_text c.args.pieces.now c.loop-piece.piece-index _ c.loop-piece-test.true (g.E.Write.contents c.args.err.now) (g.E.Write.contents c.loop-piece.err) (g.E.Write.contents c.write_piece.new.err) (g.E.Faults.fault_count c.args.err.now) (g.E.Faults.fault_count c.loop-piece.err) (g.E.Faults.fault_count c.write_piece.new.err) c.in-Err._error.sent c.loop-piece.invariant.out c.loop-piece.invariant.steady c.in-Err.ensures.sent c.in-Err.ensures.within c.in-Err.ensures.failed

-- all pieces went out
pub returns : goal.returns
returns g c = Tells-all (g.E.Write.contents c.args.err.now) (g.E.Write.contents c.loop-piece.err) (g.E.Faults.fault_count c.args.err.now) (g.E.Faults.fault_count c.loop-piece.err) (flat_map piece_text c.args.pieces.now) (subst (λ (pieces : List Piece). Appends (g.E.Write.contents c.args.err.now) (g.E.Write.contents c.loop-piece.err) (flat_map piece_text pieces)) (take_all c.loop-piece.piece-index c.args.pieces.now c.loop-piece-test.false) c.loop-piece.invariant.out)
