use Rattle.std.proofs.Common.{◌≡◌, List, [], drop}
use Rattle.scene_model.specs.Parts.{Name, is_among}
use Rattle.scene_model.specs.Declaring.{texts}
use Rattle.scene_document.specs.Documents.{has_unknown_dependency}
use Rattle.scene_document.specs.DraftViews.{systems_in}
use Rattle.scene_document.proofs.names.has_unknown_dependency.Given as goal

abbrev pub invariant-loop-entry : goal.invariant-loop-entry
invariant-loop-entry g l = (names : List Name) × ((name : Name) → is_among name (texts l.earlier.keys) ≡ is_among name names) × (has_unknown_dependency [] (systems_in l.entries) ≡ has_unknown_dependency names (systems_in (drop l.entry-index l.entries)))
