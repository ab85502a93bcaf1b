use Rattle.std.proofs.lemmas.List.{get_or_default}
use Rattle.shred_stages.proofs.MoveLemmas.{loop-from, loop-to}
use Rattle.shred_stages.proofs.moves.move_values.Goals as goal

pub loop-id-preserved : goal.loop-id-preserved
loop-id-preserved g c = record {
  from = loop-from _ _ _ _ _ _ c.loop-id-test.true (get_or_default _ _ _ _ c.loop-id-test.true) c.loop-id.invariant.from c.move_value.ensures.from;
  to = loop-to _ _ _ _ _ _ _ _ c.loop-id-test.true (get_or_default _ _ _ _ c.loop-id-test.true) c.loop-id.invariant.from c.loop-id.invariant.to c.move_value.ensures.to;
}
