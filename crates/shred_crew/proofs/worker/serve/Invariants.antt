use Rattle.std.proofs.Common.{◌≡◌, None}
use Rattle.std.specs.Arc.{arc_value}
use Rattle.crossbeam_queue.specs.Passes.{view}
use Rattle.shred_crew.specs.Lines.{IsLine}
use Rattle.shred_crew.specs.declared.line.Hand.TheVariants.{Worker}
use Rattle.shred_crew.proofs.worker.serve.Given as goal

abbrev pub invariant-loop : goal.invariant-loop
invariant-loop g l = record {
  next : (goal.iterator-loop g).can_next l.iterator';
  finite : (goal.iterator-loop g).is_finite l.iterator';
  line : IsLine (arc_value l.line) l.grip;
  free : view l.grip ≡ Worker None;
}
