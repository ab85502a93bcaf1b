use Rattle.std.proofs.Common.{◌≡◌, ◌++◌, map}
use Rattle.hibitset_sets.specs.Iter.{left_of}
use Rattle.hibitset_sets.specs.BitSet.{has_member}
use Rattle.specs_entity.specs.Births.{all_living, entity_at}
use Rattle.specs_entity.proofs.entities_res.EntitiesRes.living_entities.Given as goal

abbrev pub invariant-loop-id : goal.invariant-loop-id
invariant-loop-id l = l.entities.items ++ map (entity_at l.self) (left_of (λ s. has_member s.now) l.id-iterator) ≡ all_living l.self
