use Rattle.std.proofs.Common.{◌≡◌, take}
use Rattle.std.specs.FinMap as finite
use Rattle.scene.specs.KeptScenes.{bearers}
use Rattle.scene.proofs.snapshot.text.bearers_of.Given as goal

-- the bearers so far
abbrev pub invariant-loop-index : goal.invariant-loop-index
invariant-loop-index l = l.found.entries ≡ finite.entries (bearers (take l.index l.seats))
