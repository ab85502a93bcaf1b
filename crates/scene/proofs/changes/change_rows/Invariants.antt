use Rattle.std.proofs.Common.{length}
use Rattle.scene.proofs.LoopLemmas.{Making}
use Rattle.scene.proofs.changes.change_rows.Given as goal

-- the changes at the places from the last one on are made
abbrev pub invariant-loop-change : goal.invariant-loop-change
invariant-loop-change g l = Making l.fn.changes.items l.changes.items l.count l.fn.kept l.kept

abbrev pub decreases-loop-change : goal.decreases-loop-change
decreases-loop-change g l = length l.changes.items
