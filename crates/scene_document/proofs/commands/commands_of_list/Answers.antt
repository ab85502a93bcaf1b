use Rattle.scene_model.specs.Queues.{plain_command}
use Rattle.scene_document.specs.DraftViews.{plain_asked}
use Rattle.scene_document.specs.Openings.{command_of}
use Rattle.scene_document.proofs.CommandLemmas.{made_more}
use Rattle.scene_document.proofs.commands.commands_of_list.Goals as goal

pub loop-draft-preserved : goal.loop-draft-preserved
loop-draft-preserved g c = made_more (plain_command g.R.DocumentRules.part_of) (command_of) (plain_asked g.R.DocumentRules.part_of) c.loop-draft.commands.items c.push_some.new.list.items c.in_ok-command_of.field-0 c.loop-draft.yielded c.in-Some.draft c.in_ok-push_some.ensures c.loop-draft.invariant c.in_ok-command_of.ensures
