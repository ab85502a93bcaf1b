use Rattle.std.proofs.Common.{◌≡◌, ◌≢◌, ℕ, None, cond, map, take}
use Rattle.scene.specs.Rows.{seat_at, datum_at, HasRoom, SameCourse}
use Rattle.scene.specs.Taken.{is_one_of}
use Rattle.scene.proofs.changes.clear_row.Given as goal

-- nothing stands in the row at the indices so far
abbrev pub invariant-loop-pair : goal.invariant-loop-pair
invariant-loop-pair g l = record {
  row : (index : ℕ) → datum_at l.kept l.place index ≡ cond (is_one_of (map (λ pair. pair.1) (take l.pair-index l.indices)) index) None (datum_at l.fn.kept l.place index);
  others : (other index : ℕ) → other ≢ l.place → datum_at l.kept other index ≡ datum_at l.fn.kept other index;
  seats : (index : ℕ) → seat_at l.kept index ≡ seat_at l.fn.kept index;
  room : HasRoom l.count l.kept;
  course : SameCourse l.fn.kept l.kept;
  changes : l.kept.changes ≡ l.fn.kept.changes;
}
