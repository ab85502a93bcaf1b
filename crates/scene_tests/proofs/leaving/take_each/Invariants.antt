use Rattle.std.proofs.Common.{drop}
use Rattle.scene_basics.specs.Adding.{ShowsNumbers}
use Rattle.scene_tests.specs.Leaving.{AreThose}
use Rattle.scene_tests.proofs.leaving.take_each.Given as goal

abbrev pub invariant-loop-index : goal.invariant-loop-index
invariant-loop-index l = record {
  those : AreThose l.numbers (drop l.index-index l.indices);
  shown : ShowsNumbers l.initial.numbers l.numbers;
}
