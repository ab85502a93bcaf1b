use Rattle.std.proofs.Common.{◌≡◌, drop}
use Rattle.shred.specs.Names.{texts, lacks_one}
use Rattle.shred.proofs.names.Names.lacks_one.Given as goal

abbrev pub invariant-loop-name : goal.invariant-loop-name
invariant-loop-name l = lacks_one l.self (texts l.wanted) ≡ lacks_one l.self (texts (drop l.name-index l.wanted))
