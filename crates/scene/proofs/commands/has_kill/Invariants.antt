use Rattle.std.proofs.Common.{take, All}
use Rattle.scene.specs.Sparing.{AsksNoDeath}
use Rattle.scene.proofs.commands.has_kill.Given as goal

abbrev pub invariant-loop-command : goal.invariant-loop-command
invariant-loop-command g l = All AsksNoDeath (take l.command-index l.commands)
