use Rattle.std.proofs.Common.{◌≡◌, map}
use Rattle.std.specs.List.{filter_map}
use Rattle.scene_model.specs.Queues.{plain_entry}
use Rattle.scene_document.specs.DraftViews.{plain_part}
use Rattle.scene_document.proofs.commands.known_parts.Given as goal

abbrev pub invariant-loop-part : goal.invariant-loop-part
invariant-loop-part g l = map (plain_entry g.R.DocumentRules.part_of) l.known.items ≡ filter_map (λ part. part) (map (plain_part g.R.DocumentRules.part_of) l.yielded)
