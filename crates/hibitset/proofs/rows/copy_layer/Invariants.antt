use Rattle.std.proofs.Common.{◌≡◌, ℕ, ◌+◌, ◌<◌, get_or, length}
use Rattle.hibitset_sets.specs.BitSet.{has_member}
use Rattle.hibitset_sets.specs.Words.{word_of}
use Rattle.hibitset.proofs.rows.copy_layer.Given as goal

abbrev pub invariant-loop-place : goal.invariant-loop-place
invariant-loop-place l = record {
  length : length l.row.items ≡ length l.initial.row.items;
  copied : (k : ℕ) → k < l.place → get_or l.row.items (l.start + k) 0 ≡ word_of (has_member l.set) l.layer k;
  before : (k : ℕ) → k < l.start → get_or l.row.items k 0 ≡ get_or l.initial.row.items k 0;
}
