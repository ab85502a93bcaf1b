use Rattle.std.proofs.Common.{◌≡◌, drop}
use Rattle.scene_model.specs.Declaring.{texts}
use Rattle.scene_document.specs.Names.{lacks_one_of}
use Rattle.scene_document.proofs.names.lacks_one_of.Given as goal

abbrev pub invariant-loop-name : goal.invariant-loop-name
invariant-loop-name l = lacks_one_of (texts l.names.keys) (texts l.wanted) ≡ lacks_one_of (texts l.names.keys) (texts (drop l.name-index l.wanted))
