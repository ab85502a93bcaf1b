use Rattle.std.proofs.Common.{◌≡◌, ℕ, length}
use Rattle.std.specs.FinSet as fin
use Rattle.hibitset_sets.specs.Walk.{walk}
use Rattle.specs_entity.specs.Births.{all_settled, living, Continues}
use Rattle.specs_entity.specs.Emptied.{still_in}
use Rattle.specs_entity.proofs.entities_res.EntitiesRes.settle_all.Given as goal

abbrev pub invariant-loop-id : goal.invariant-loop-id
invariant-loop-id l = record {
  value : all_settled l.self (walk (fin.contains l.self.fresh)) ≡ all_settled l.initial.self (walk (fin.contains l.initial.self.fresh));
  left : still_in l.self.fresh l.emptying ≡ walk (fin.contains l.self.fresh);
  lives : (index : ℕ) → living l.self index ≡ living l.initial.self index;
  goes : Continues l.initial.self l.self;
}

abbrev pub decreases-loop-id : goal.decreases-loop-id
decreases-loop-id l = length (walk (fin.contains l.self.fresh))
