use Rattle.std.proofs.Common.{vec_len}
use Rattle.specs_entity.specs.Births.{Births}
use Rattle.specs_entity.specs.Layout.{AreMade}
use Rattle.specs_entity.proofs.entities_res.EntitiesRes.take_back.Given as goal

abbrev pub invariant-loop-entity : goal.invariant-loop-entity
invariant-loop-entity l = record {
  some : (before : Births) × AreMade before l.made.items l.self;
  all : (before : Births) → AreMade before l.initial.made.items l.initial.self → AreMade before l.made.items l.self;
}

abbrev pub decreases-loop-entity : goal.decreases-loop-entity
decreases-loop-entity l = vec_len l.made
