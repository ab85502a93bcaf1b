use Rattle.std.proofs.Common.{◌≡◌}
use Rattle.std.specs.Prelude.{Ok}
use Rattle.shred.specs.Standing.{AreAccepted}
use Rattle.shred.proofs.standing.DispatchesShiftWorldPack.run.Given as goal

abbrev pub invariant-loop-time : goal.invariant-loop-time
invariant-loop-time g l = record {
  times : l.self.times ≡ l.fn.self.times;
  accepted : l.self.accepted ≡ l._time;
  outcome : l.self.outcome ≡ Ok tt;
  ran : AreAccepted g.S.System.meets g.L.RunNow.meets l._time l.fn.self.dispatcher l.fn.self.world l.self.dispatcher l.self.world;
}
