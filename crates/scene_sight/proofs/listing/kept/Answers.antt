use Rattle.std.proofs.Common.{◌≤◌, ap, arith}
use Rattle.std.proofs.lemmas.List.Elements.{All-push}
use Rattle.serde_json.specs.View.{view}
use Rattle.scene_sight.specs.Paths.{Stands}
use Rattle.scene_sight.specs.Faults.{rank}
use Rattle.scene_sight.proofs.listing.kept.Goals as goal

pub loop-fault-preserved-in_ok-push : goal.loop-fault-preserved-in_ok-push
loop-fault-preserved-in_ok-push c =
    let no_lesser : rank c.args.refusal ≤ rank c.in_ok-placed.field-0.refusal = omega (arith, c.rank.ensures, c.rank-in-loop-fault.ensures, ap rank c.in_ok-placed.ensures.same, c.if-rank.true) in
    rw c.in_ok-push.ensures.items (
      All-push (λ fault. rank c.args.refusal ≤ rank fault.refusal) c.loop-fault.faults.items c.in_ok-placed.field-0 c.loop-fault.invariant.0 no_lesser,
      All-push (λ fault. Stands (view c.args.value.now) fault.path.items) c.loop-fault.faults.items c.in_ok-placed.field-0 c.loop-fault.invariant.1 c.in_ok-placed.ensures.stands,
    )
