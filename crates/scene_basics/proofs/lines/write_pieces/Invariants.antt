use Rattle.std.proofs.Common.{◌≡◌, take}
use Rattle.std.specs.List.{flat_map}
use Rattle.std.specs.Io.KnownBytes.{Appends}
use Rattle.scene_basics.specs.Lines.{piece_text}
use Rattle.scene_basics.proofs.lines.write_pieces.Given as goal

abbrev pub invariant-loop-piece : goal.invariant-loop-piece
invariant-loop-piece g l = record {
  out : Appends (g.E.Write.contents l.initial.err) (g.E.Write.contents l.err) (flat_map piece_text (take l.piece-index l.pieces));
  steady : g.E.Faults.fault_count l.err ≡ g.E.Faults.fault_count l.initial.err;
}
