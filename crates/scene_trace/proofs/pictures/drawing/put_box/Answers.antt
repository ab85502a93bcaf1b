use Rattle.std.specs.Prelude.{codes, decimal}
use Rattle.std.proofs.lemmas.Result.{on_ok_weaker}
use Rattle.scene_trace.proofs.DrawnLemmas.{put-in-turn}
use Rattle.scene_trace.proofs.pictures.drawing.put_box.Goals as goal

-- the pieces are those of the rectangle
pub returns : goal.returns
returns c =
    on_ok_weaker c.put-4.result
    (put-in-turn c.args.out.now.items (codes "<rect x=\"") (decimal c.args.area.x) (codes "\" y=\"") (decimal c.args.area.y) (codes "\" width=\"") (decimal c.args.area.width) (codes "\" height=\"32\" rx=\"4\"/>")
    c.put.new.out.items c.put_number.new.out.items c.put-2.new.out.items c.put_number-2.new.out.items c.put-3.new.out.items c.put_number-3.new.out.items c.put-4.new.out.items
    c.in_ok-put.ensures c.in_ok-put_number.ensures c.in_ok-put-2.ensures c.in_ok-put_number-2.ensures c.in_ok-put-3.ensures c.in_ok-put_number-3.ensures)
    c.put-4.ensures
