use Rattle.std.proofs.Common.{◌≤◌, All}
use Rattle.serde_json.specs.View.{view}
use Rattle.scene_sight.specs.Paths.{Stands}
use Rattle.scene_sight.specs.Faults.{rank}
use Rattle.scene_sight.proofs.listing.kept.Given as goal

-- what was kept so far is no lesser, and stands
abbrev pub invariant-loop-fault : goal.invariant-loop-fault
invariant-loop-fault l =
    All (λ fault. rank l.refusal ≤ rank fault.refusal) l.faults.items
    × All (λ fault. Stands (view l.value) fault.path.items) l.faults.items
