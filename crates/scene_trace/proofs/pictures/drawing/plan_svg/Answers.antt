use Rattle.std.proofs.Common.{codes, ◌++◌, ◌≡◌, append_assoc, refl}
use Rattle.scene_trace.proofs.DrawnLemmas.{boxes-within}
use Rattle.scene_trace.proofs.pictures.drawing.plan_svg.Goals as goal

-- what is drawn stands between the rest
pub returns : goal.returns
returns c =
    let text = c.in_ok-drawn.drawn.text.items in
    let before = c.put_lines.new.out.items in
    let whole : c.put.new.out.items ≡ before ++ (text ++ codes "</svg>\n") = rw (c.in_ok-put.ensures, c.in_ok-extend_from_slice.ensures.items, c.deref-5.ensures.value) (simp append_assoc refl) in
    record {
      boxes = c.in_ok-drawn.drawn.boxes.items;
      are = record {
        places = c.in_ok-drawn.ensures.places;
        widths = c.in_ok-drawn.ensures.widths;
        drawn = rw whole (boxes-within c.in_ok-drawn.drawn.boxes.items text before (codes "</svg>\n") c.in_ok-drawn.ensures.drawn);
      };
    }
