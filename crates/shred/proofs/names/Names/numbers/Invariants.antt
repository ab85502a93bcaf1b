use Rattle.std.proofs.Common.{◌≡◌, take}
use Rattle.shred.specs.Names.{texts, numbers_under}
use Rattle.shred.proofs.names.Names.numbers.Given as goal

abbrev pub invariant-loop-name : goal.invariant-loop-name
invariant-loop-name l = l.list.items ≡ numbers_under l.self (texts (take l.name-index l.wanted))
