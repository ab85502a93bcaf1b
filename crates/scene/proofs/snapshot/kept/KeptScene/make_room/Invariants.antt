use Rattle.std.proofs.Common.{◌≡◌, ◌≤◌, ℕ, length}
use Rattle.std.specs.List.{AllWithin}
use Rattle.scene.specs.Rows.{seat_at, datum_at, SameCourse}
use Rattle.scene.proofs.snapshot.kept.KeptScene.make_room.Given as goal

-- the columns up to the place are long enough, and show what they did
abbrev pub invariant-loop-place : goal.invariant-loop-place
invariant-loop-place g l = record {
  room : l.count ≤ length l.self.seats.items;
  done : AllWithin (λ column. l.count ≤ length column.items) l.self.columns.items 0 l.place;
  seats : (index : ℕ) → seat_at l.self index ≡ seat_at l.fn.self index;
  rows : (place index : ℕ) → datum_at l.self place index ≡ datum_at l.fn.self place index;
  course : SameCourse l.fn.self l.self;
  changes : l.self.changes ≡ l.fn.self.changes;
}
