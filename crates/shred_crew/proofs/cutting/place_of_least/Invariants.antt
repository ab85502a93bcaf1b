use Rattle.std.proofs.Common.{ltb}
use Rattle.std.specs.List.{IsFirstBest}
use Rattle.shred_crew.proofs.cutting.place_of_least.Given as goal

abbrev pub invariant-loop-other : goal.invariant-loop-other
invariant-loop-other l = IsFirstBest ltb l.numbers l.other l.place
