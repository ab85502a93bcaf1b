use Rattle.std.proofs.Common.{◌≡◌, false, drop}
use Rattle.scene_model.specs.Declaring.{texts}
use Rattle.scene_document.specs.Documents.{has_taken_name}
use Rattle.scene_document.specs.DraftViews.{systems_in}
use Rattle.scene_document.proofs.NameLemmas.{Keeps}
use Rattle.scene_document.proofs.names.has_taken_name.Given as goal

abbrev pub invariant-loop-index : goal.invariant-loop-index
invariant-loop-index g l = Keeps (texts l.later.keys) (drop l.index l.entries) × (has_taken_name (systems_in (drop l.index l.entries)) ≡ false)
