use Rattle.shred_plan.proofs.TableLemmas.{marked-step}
use Rattle.shred_plan.proofs.id_table.mark_all.Goals as goal

pub loop-id-preserved : goal.loop-id-preserved
loop-id-preserved g c = λ q place.
    marked-step g.K.PartialEq.eq c.args.ids.now c.loop-id.id-index c.id-item.result q c.args.stage place _ _ _ c.loop-id-test.true c.id-item.is (c.in_ok-mark.ensures q place) (c.loop-id.invariant q place)
