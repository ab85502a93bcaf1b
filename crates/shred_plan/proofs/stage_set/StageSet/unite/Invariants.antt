use Rattle.std.proofs.Common.{◌≡◌, ℕ, ◌≤◌, ◌||◌, eqb, length, get_or, take}
use Rattle.std.specs.Int.{bit_at}
use Rattle.shred_plan.proofs.stage_set.StageSet.unite.Given as goal

abbrev pub invariant-loop-place : goal.invariant-loop-place
invariant-loop-place l =
    (length l.other.words.items ≤ length l.self.words.items)
    × ((word bit : ℕ) → eqb (bit_at (get_or l.self.words.items word 0) bit) 1 ≡ (eqb (bit_at (get_or l.fn.self.words.items word 0) bit) 1 || eqb (bit_at (get_or (take l.place l.other.words.items) word 0) bit) 1))
