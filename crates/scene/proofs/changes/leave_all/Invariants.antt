use Rattle.std.proofs.Common.{◌≡◌, ℕ, None, is_some, cond, map, take}
use Rattle.std.specs.List.{count_by}
use Rattle.scene.specs.Rows.{seat_at, datum_at, HasRoom, SameCourse}
use Rattle.scene.specs.Keeping.{CountsMore}
use Rattle.scene.specs.Taken.{is_one_of}
use Rattle.scene.proofs.changes.leave_all.Given as goal

-- the indices so far bear nothing
abbrev pub invariant-loop-pair : goal.invariant-loop-pair
invariant-loop-pair g l = record {
  seats : (index : ℕ) → seat_at l.kept index ≡ cond (is_one_of (map (λ pair. pair.1) (take l.pair-index l.touched)) index) None (seat_at l.fn.kept index);
  rows : (place index : ℕ) → datum_at l.kept place index ≡ datum_at l.fn.kept place index;
  course : SameCourse l.fn.kept l.kept;
  changes : CountsMore l.fn.kept.changes (count_by (λ pair. is_some (seat_at l.fn.kept pair.1)) (take l.pair-index l.touched)) l.kept.changes;
  room : (count : ℕ) → HasRoom count l.fn.kept → HasRoom count l.kept;
}
