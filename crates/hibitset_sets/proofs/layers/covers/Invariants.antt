use Rattle.std.proofs.Common.{◌≡◌, ℕ, ◌/◌, ◌<◌, true}
use Rattle.hibitset_sets.specs.Edits.{bit_of}
use Rattle.hibitset_sets.proofs.layers.covers.Given as goal

abbrev pub invariant-loop-place : goal.invariant-loop-place
invariant-loop-place l = (i : ℕ) → i / 64 < l.place → bit_of l.part.items i ≡ true → bit_of l.words.items i ≡ true
