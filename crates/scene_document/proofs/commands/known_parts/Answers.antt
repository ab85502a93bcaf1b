use Rattle.std.proofs.Common.{refl}
use Rattle.scene_model.specs.Queues.{plain_entry}
use Rattle.scene_document.specs.DraftViews.{plain_part}
use Rattle.scene_document.proofs.CommandLemmas.{made_more}
use Rattle.scene_document.proofs.commands.known_parts.Goals as goal

pub loop-part-preserved : goal.loop-part-preserved
loop-part-preserved g c = made_more (plain_entry g.R.DocumentRules.part_of) (λ part. part) (plain_part g.R.DocumentRules.part_of) c.loop-part.known.items c.push_some.new.list.items c.in-Some.part c.loop-part.yielded c.in-Some.part c.in_ok-push_some.ensures c.loop-part.invariant refl
