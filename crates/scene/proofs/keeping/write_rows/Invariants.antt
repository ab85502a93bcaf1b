use Rattle.std.proofs.Common.{◌≡◌, ◌≤◌, ℕ, None}
use Rattle.scene_model.specs.Declaring.{texts}
use Rattle.scene_world.specs.Places.{kinds_of}
use Rattle.scene_commands.specs.Acts.{seen_of}
use Rattle.scene.specs.Rows.{seat_at, datum_at, HasRoom, SameCourse}
use Rattle.scene.specs.Taken.{AreRowsOf}
use Rattle.scene.proofs.keeping.write_rows.Given as goal

-- the rows of the kinds so far are written, and no other
abbrev pub invariant-loop-place : goal.invariant-loop-place
invariant-loop-place g l = record {
  rows : AreRowsOf (kinds_of g.R.Value.SceneValue.places g.R.DocumentRules.part_of g.R.WorldRules.columns) g.R.DocumentRules.part_of (seen_of l.world) (texts l.names) l.place l.kept;
  bare : (other index : ℕ) → l.place ≤ other → datum_at l.kept other index ≡ None;
  seats : (index : ℕ) → seat_at l.kept index ≡ None;
  room : HasRoom l.count l.kept;
  course : SameCourse l.fn.kept l.kept;
  changes : l.kept.changes ≡ l.fn.kept.changes;
}
