use Rattle.std.proofs.Common.{◌≡◌}
use Rattle.scene_document.specs.Drafts.{keys_within}
use Rattle.scene_model.specs.Declaring.{texts}
use Rattle.scene_document.specs.ShapeWords.{members_seen}
use Rattle.scene_document.proofs.shape.fields.has_only_keys.Given as goal

abbrev pub invariant-loop-key : goal.invariant-loop-key
invariant-loop-key l = keys_within (texts l.keys) (members_seen l.fn.members.entries) ≡ keys_within (texts l.keys) (members_seen l.key-iterator)
