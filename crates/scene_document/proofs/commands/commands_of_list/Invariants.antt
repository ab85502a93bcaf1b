use Rattle.std.proofs.Common.{◌≡◌, map}
use Rattle.std.specs.List.{filter_map}
use Rattle.scene_model.specs.Queues.{plain_commands}
use Rattle.scene_document.specs.DraftViews.{plain_asked}
use Rattle.scene_document.specs.Openings.{command_of}
use Rattle.scene_document.proofs.commands.commands_of_list.Given as goal

abbrev pub invariant-loop-draft : goal.invariant-loop-draft
invariant-loop-draft g l = plain_commands g.R.DocumentRules.part_of l.commands.items ≡ filter_map command_of (map (plain_asked g.R.DocumentRules.part_of) l.yielded)
