use Rattle.std.proofs.Common.{◌≡◌, false, take}
use Rattle.scene_commands.specs.Reaching.{any_at}
use Rattle.scene_commands.proofs.reaching.kind_names.Given as goal

abbrev pub invariant-loop-entity : goal.invariant-loop-entity
invariant-loop-entity g l = any_at l.target (take l.entity-index l.entity-items) ≡ false
