use Rattle.std.proofs.Common.{arith}
use Rattle.std.proofs.lemmas.Grind.{common_steps}
use Rattle.scene_trace.proofs.DrawnLemmas.{one-more}
use Rattle.scene_trace.proofs.pictures.drawing.draw_systems.Goals as goal

-- one more system is drawn
pub loop-system-preserved : goal.loop-system-preserved
loop-system-preserved c = record {
  places = grind (arith, common_steps);
  widths = grind (arith, common_steps);
  drawn = rw (c.in_ok-push.ensures.items, c.in_ok-extend_from_slice-2.ensures.items, c.in_ok-put_box.ensures, c.in_ok-extend_from_slice.ensures.items) (one-more c.loop-system.boxes.items c.step-area.result c.loop-system.text.items c.deref.result.now c.deref-in-loop-system.result.now c.loop-system.invariant.drawn);
}
