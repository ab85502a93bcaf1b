use Rattle.std.proofs.Common.{◌≡◌, ◌≤◌, length, take, drop}
use Rattle.hibitset_sets.specs.Drain.{WithoutAll, drained_of}
use Rattle.hibitset_sets.proofs.laws.drain_into.Given as goal

abbrev pub invariant-loop-place : goal.invariant-loop-place
invariant-loop-place g l =
    let members = g.T.BitSetLike.members in
    record {
      same_reference : l.drain.set.ghost_name ≡ l.fn.drain.set.ghost_name;
      left : drained_of members l.drain ≡ drop l.place (drained_of members l.fn.drain);
      upto : l.place ≤ length (drained_of members l.fn.drain);
      items : take l.place l.given ≡ take l.place (drained_of members l.fn.drain);
      rest : drop l.place l.given ≡ drop l.place l.initial.given;
      members : WithoutAll (members l.fn.drain.set.now) (take l.place (drained_of members l.fn.drain)) (members l.drain.set.now);
    }
