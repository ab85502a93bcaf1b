use Rattle.std.proofs.Common.{◌≤◌, length, vec_len}
use Rattle.specs_entity.specs.Births.{Births}
use Rattle.specs_entity.specs.Layout.{AreMade}
use Rattle.specs_entity.proofs.entities_res.EntitiesRes.keep_births.Given as goal

abbrev pub invariant-loop-made : goal.invariant-loop-made
invariant-loop-made l = record {
  few : l.count ≤ length l.made.items;
  some : (before : Births) × AreMade before l.made.items l.self;
  all : (before : Births) → AreMade before l.initial.made.items l.initial.self → AreMade before l.made.items l.self;
}

abbrev pub decreases-loop-made : goal.decreases-loop-made
decreases-loop-made l = vec_len l.made
