use Rattle.std.proofs.Common.{◌≡◌, map}
use Rattle.std.specs.List.{filter_map}
use Rattle.scene_model.specs.Queues.{plain_commands}
use Rattle.scene_document.specs.DraftViews.{plain_list}
use Rattle.scene_document.specs.Openings.{command_of}
use Rattle.scene_document.proofs.commands.commands_of.Given as goal

abbrev pub invariant-loop-list : goal.invariant-loop-list
invariant-loop-list g l = map (λ list. plain_commands g.R.DocumentRules.part_of list.items) l.commands.items ≡ map (λ list. filter_map command_of (plain_list g.R.DocumentRules.part_of list)) l.yielded
