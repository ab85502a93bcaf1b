use Rattle.std.proofs.Common.{◌≡◌, ◌≤◌, length}
use Rattle.std.specs.Vec.{vec_capacity}
use Rattle.specs_entity.specs.Layout.{AreMade}
use Rattle.specs_entity.proofs.entities_res.EntitiesRes.create_all.Given as goal

abbrev pub invariant-loop : goal.invariant-loop
invariant-loop l = record {
  made : AreMade l.initial.self l.made.items l.self;
  long : length l.made.items ≡ l.counter;
  room : l.count ≤ vec_capacity l.made;
}
