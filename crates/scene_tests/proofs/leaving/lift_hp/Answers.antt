use Rattle.std.proofs.Common.{sym, ◌∙◌}
use Rattle.scene_tests.proofs.HeldLemmas.{same-again}
use Rattle.scene_tests.proofs.leaving.lift_hp.Goals as goal

pub returns-in_default : goal.returns-in_default
returns-in_default g c = record {
  there = tt;
  taken = tt;
  none = same-again (g.W.Holder.slots c.args.view.now) (g.W.Holder.slots c.take.new.self) (g.W.Holder.slots c.put.new.self) c.part_id.result c.part_id-in_default.result c.in_ok-value.value
      c.in_ok-value.ensures.ok (c.part_id-in_default.ensures ∙ sym c.part_id.ensures) c.put.ensures (sym c.in_ok-value.ensures.value);
}
