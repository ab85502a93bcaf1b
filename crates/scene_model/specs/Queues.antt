-- Commands and queues of the code in plain terms.
use Rattle.std.specs.Prelude.{List, map}
use denote.Ref.{Bor}
use Rattle.scene_model.specs.declared.command.Command.{Command}
use Rattle.scene_model.specs.declared.command.Command.TheVariants.{Spawn, Kill, Put, Take}
use Rattle.scene_model.specs.declared.command.Queue.{Queue}
use Rattle.scene_model.specs.declared.command.NotQueued.{NotQueued}
use Rattle.scene_model.specs.declared.command.NotQueued.TheVariants as refused
use Rattle.scene_model.specs.Parts.{Name, Part}
use Rattle.scene_model.specs.Rulebook as plain

module _ {D : Type 0} (part_of : D → Part) where
  -- a datum under its kind
  abbrev pub plain_entry : Bor Name × D → Name × Part
  plain_entry entry = (entry.0.now, part_of entry.1)

  -- a command
  abbrev pub plain_command : Command D → plain.Command
  plain_command (Spawn parts) = plain.spawn (map plain_entry parts.items)
  plain_command (Kill id) = plain.kill id
  plain_command (Put id kind datum) = plain.put id kind.now (part_of datum)
  plain_command (Take id kind) = plain.take id kind.now

  -- commands
  abbrev pub plain_commands : List (Command D) → List plain.Command
  plain_commands commands = map plain_command commands

-- the commands that wait in a queue, the first of them first
abbrev pub waiting : {D : Type 0} → Queue D → List (Command D)
waiting queue = queue.commands.items

module _ {D : Type 0} where
  -- the command that was not taken in
  abbrev pub handed_back : NotQueued D → Command D
  handed_back (refused.Full command) = command
  handed_back (refused.Memory command) = command

  -- a command was not taken in since the queue was full
  abbrev pub IsFull : NotQueued D → Type 0
  IsFull (refused.Full command) = Unit {0}
  IsFull (refused.Memory command) = ⊥
