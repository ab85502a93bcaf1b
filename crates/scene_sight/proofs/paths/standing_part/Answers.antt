use Rattle.std.proofs.Common.{sym}
use Rattle.serde_json.specs.View.{view}
use Rattle.scene_sight.proofs.PathLemmas.{found_more}
use Rattle.scene_sight.proofs.paths.standing_part.Goals as goal

pub loop-step-preserved : goal.loop-step-preserved
loop-step-preserved c =
    rw c.in_ok-push.ensures.items (found_more c.loop-step.part.items c.in-Some.step (view c.args.value.now) (view c.loop-step.here.now) (view c.in-Some-value_behind.next.now) c.loop-step.invariant (sym c.in-Some-value_behind.ensures))
