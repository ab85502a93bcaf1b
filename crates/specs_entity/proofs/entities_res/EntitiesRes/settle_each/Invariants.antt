use Rattle.std.proofs.Common.{◌≡◌, ℕ, take}
use Rattle.specs_entity.specs.Births.{all_settled, indices_of, Continues, living}
use Rattle.specs_entity.proofs.entities_res.EntitiesRes.settle_each.Given as goal

abbrev pub invariant-loop-entity : goal.invariant-loop-entity
invariant-loop-entity l = record {
  run : l.self ≡ all_settled l.initial.self (indices_of (take l.entity-index l.entities));
  lives : (index : ℕ) → living l.self index ≡ living l.initial.self index;
  goes : Continues l.initial.self l.self;
}
