use Rattle.std.proofs.Common.{◌+◌}
use Rattle.scene_tests.proofs.filling.replace_entry.Goals as goal

pub write-requires-clause-room : goal.write-requires-clause-room
write-requires-clause-room g c = c.leave_out.ensures.room (c.args.index + 1) c.requires.room

pub enter-requires : goal.enter-requires
enter-requires g c = record { room = c.write.ensures.room (c.args.index + 1) (c.leave_out.ensures.room (c.args.index + 1) c.requires.room) }
