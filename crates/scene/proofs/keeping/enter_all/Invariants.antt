use Rattle.std.proofs.Common.{◌≡◌, ℕ, take}
use Rattle.scene.specs.Rows.{seat_at, datum_at, HasRoom, SameCourse}
use Rattle.scene.specs.Keeping.{CountsMore}
use Rattle.scene.specs.Taken.{turned, with_last}
use Rattle.scene.proofs.keeping.enter_all.Given as goal

-- the ids so far stand at their indices
abbrev pub invariant-loop-pair : goal.invariant-loop-pair
invariant-loop-pair g l = record {
  seats : (index : ℕ) → seat_at l.kept index ≡ with_last (turned (take l.pair-index l.pairs)) (seat_at l.fn.kept) index;
  rows : (place index : ℕ) → datum_at l.kept place index ≡ datum_at l.fn.kept place index;
  room : HasRoom l.count l.kept;
  course : SameCourse l.fn.kept l.kept;
  changes : CountsMore l.fn.kept.changes l.pair-index l.kept.changes;
}
