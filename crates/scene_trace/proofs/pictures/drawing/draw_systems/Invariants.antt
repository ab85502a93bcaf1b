use Rattle.std.proofs.Common.{take}
use Rattle.scene_trace.specs.Boxes.{AreDrawn}
use Rattle.scene_trace.proofs.pictures.drawing.draw_systems.Given as goal

-- the systems so far are drawn
abbrev pub invariant-loop-system : goal.invariant-loop-system
invariant-loop-system l = AreDrawn (take l.system-index l.system-items) l.boxes.items l.text.items
