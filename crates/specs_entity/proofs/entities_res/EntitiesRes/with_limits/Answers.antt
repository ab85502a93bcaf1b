use Rattle.std.proofs.Common.{arith}
use Rattle.specs_entity.specs.Births.{none_born}
use Rattle.specs_entity.proofs.BirthLemmas.{AreBirths-none}
use Rattle.specs_entity.proofs.AliveLemmas.{marks-none, living-none}
use Rattle.specs_entity.proofs.entities_res.EntitiesRes.with_limits.Goals as goal

pub invariant_of-result : goal.invariant_of-result
invariant_of-result c = record {
  births = rw (c.new.ensures.items, c.new-2.ensures.members, c.new-3.ensures.members, c.new-6.ensures.items) (AreBirths-none c.min.result c.min-2.result (omega arith) (omega arith));
  used = rw c.new.ensures.items (omega arith);
  generations = omega arith;
  raised = omega arith;
  killed = omega arith;
  marked = omega arith;
  cache = omega arith;
  unmarked = c.new-4.ensures.members;
  alive_room = omega arith;
  alive = rw (c.new.ensures.items, c.new-2.ensures.members) (marks-none c.new-5.result.members (none_born c.min.result c.min-2.result) c.new-5.ensures.members (living-none c.min.result c.min-2.result));
}
