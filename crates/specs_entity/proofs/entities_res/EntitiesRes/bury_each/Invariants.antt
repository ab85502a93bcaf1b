use Rattle.std.proofs.Common.{◌≡◌, take}
use Rattle.specs_entity.specs.Births.{all_buried, indices_of, Continues}
use Rattle.specs_entity.proofs.entities_res.EntitiesRes.bury_each.Given as goal

abbrev pub invariant-loop-entity : goal.invariant-loop-entity
invariant-loop-entity l = record {
  run : l.self ≡ all_buried l.initial.self (indices_of (take l.entity-index l.entities));
  goes : Continues l.initial.self l.self;
}
