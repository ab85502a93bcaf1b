-- The boxes of a plan's systems.
use Rattle.std.specs.Prelude.{◌≡◌, ◌*◌, ◌++◌, ℕ, List, map, All, codes, decimal}
use Rattle.scene_trace.specs.declared.pictures.plan.PlanSystem.{PlanSystem}
use Rattle.scene_trace.specs.declared.pictures.boxes.PlanBox.{PlanBox}

-- the rectangle of a box, as an SVG has it
abbrev pub box_text : PlanBox → List ℕ
box_text box = codes "<rect x=\"" ++ decimal box.x ++ codes "\" y=\"" ++ decimal box.y ++ codes "\" width=\"" ++ decimal box.width ++ codes "\" height=\"32\" rx=\"4\"/>"

-- a text has a part
pub record HasPart (part text : List ℕ) : Type 0 where
  pub before : List ℕ
  pub after : List ℕ
  pub split : text ≡ before ++ (part ++ after)

-- boxes are those of systems, in one order, each as wide as its system's time, and a text has the rectangle of each
pub record AreDrawn (systems : List PlanSystem) (boxes : List PlanBox) (text : List ℕ) : Type 0 where
  pub places : map (λ box. box.place) boxes ≡ map (λ system. system.place) systems
  pub widths : map (λ box. box.width) boxes ≡ map (λ system. 60 * system.units) systems
  pub drawn : All (λ box. HasPart (box_text box) text) boxes

-- a text has a box for each system
pub record IsDrawn (systems : List PlanSystem) (text : List ℕ) : Type 0 where
  pub boxes : List PlanBox
  pub are : AreDrawn systems boxes text
