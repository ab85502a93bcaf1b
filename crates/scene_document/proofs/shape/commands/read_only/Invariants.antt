use Rattle.std.proofs.Common.{◌≡◌}
use Rattle.scene_document.proofs.shape.commands.read_only.Given as goal

abbrev pub invariant-loop-key : goal.invariant-loop-key
invariant-loop-key g l = l.key-iterator ≡ l.fn.members.entries
