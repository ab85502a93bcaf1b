use Rattle.std.proofs.Common.{◌≡◌, ◌+◌, ◌++◌, [], Err, length, take, drop, refl, ap, sym, ◌∙◌, subst, append_assoc, length-append, arith, All}
use Rattle.std.proofs.lemmas.List.{length-map, take_all, append-nil}
use Rattle.scene_model.specs.Lawful.{IsLawful}
use Rattle.scene_model.specs.Leads.{RunsTo}
use Rattle.scene_model.specs.Queues.{plain_command, plain_commands, waiting}
use Rattle.scene_model.proofs.CallerLemmas.{joined-to, none-to}
use Rattle.scene_world.specs.Places.{kinds_of}
use Rattle.scene_world.specs.Standing.{plain_of, owning_in}
use Rattle.scene_commands.specs.Acts.{seen_of}
use Rattle.scene_commands.specs.Lists.{RefusesActs}
use Rattle.scene_commands.proofs.CallerLemmas.{goes-nowhere, goes-both}
use Rattle.scene.specs.Waiting.{waiting_in}
use Rattle.scene.proofs.CountLemmas.{flat-more, flat-front, holds-of}
use Rattle.scene.proofs.CommandLemmas.{acts-behind, acts-before}
use Rattle.scene.proofs.commands.act_queues.Goals as goal

pub loop-queue-init : goal.loop-queue-init
loop-queue-init g c = record {
  place = omega arith;
  ran = none-to (owning_in (kinds_of g.R.Value.SceneValue.places g.R.DocumentRules.part_of g.R.WorldRules.columns)) c.args.frame (c.args.earlier + 1) (plain_of (kinds_of g.R.Value.SceneValue.places g.R.DocumentRules.part_of g.R.WorldRules.columns) (seen_of c.args.world.now)) c.args.skips.now.items;
  may = c.requires.may;
  elsewhere = λ id e m a p. refl;
  goes_on = goes-nowhere (kinds_of g.R.Value.SceneValue.places g.R.DocumentRules.part_of g.R.WorldRules.columns) c.args.world.now;
  covers = c.requires.covers;
  kept = ([], sym (append-nil c.args.skips.now.items));
}

pub act_all-requires-clause-may : goal.act_all-requires-clause-may
act_all-requires-clause-may g c = c.loop-queue.invariant.may

pub act_all-requires-clause-covers : goal.act_all-requires-clause-covers
act_all-requires-clause-covers g c = c.loop-queue.invariant.covers

pub act_all-requires-clause-lawful : goal.act_all-requires-clause-lawful
act_all-requires-clause-lawful g c =
    subst (λ commands. All (IsLawful (g.R.DocumentRules.book c.args.rules.now)) (plain_commands g.R.DocumentRules.part_of commands)) (sym c.as_slice.ensures)
    (holds-of (λ queue. All (IsLawful (g.R.DocumentRules.book c.args.rules.now)) (plain_commands g.R.DocumentRules.part_of (waiting queue))) c.args.queues.now c.loop-queue.queue-index c.queue-item.result c.loop-queue-test.true c.queue-item.is c.requires.lawful)

pub act_all-requires-clause-room : goal.act_all-requires-clause-room
act_all-requires-clause-room g c =
    let more : length (waiting_in g.R.DocumentRules.part_of (take (c.loop-queue.queue-index + 1) c.args.queues.now)) ≡ length (waiting_in g.R.DocumentRules.part_of (take c.loop-queue.queue-index c.args.queues.now)) + length (plain_commands g.R.DocumentRules.part_of (waiting c.queue-item.result)) =
    ap length (flat-more (λ one. plain_commands g.R.DocumentRules.part_of (waiting one)) c.args.queues.now c.loop-queue.queue-index c.queue-item.result c.loop-queue-test.true c.queue-item.is) ∙ length-append (waiting_in g.R.DocumentRules.part_of (take c.loop-queue.queue-index c.args.queues.now)) (plain_commands g.R.DocumentRules.part_of (waiting c.queue-item.result)) in
    let front : length (waiting_in g.R.DocumentRules.part_of c.args.queues.now) ≡ length (waiting_in g.R.DocumentRules.part_of (take (c.loop-queue.queue-index + 1) c.args.queues.now)) + length (waiting_in g.R.DocumentRules.part_of (drop (c.loop-queue.queue-index + 1) c.args.queues.now)) =
    ap length (flat-front (λ one. plain_commands g.R.DocumentRules.part_of (waiting one)) c.args.queues.now (c.loop-queue.queue-index + 1)) ∙ length-append (waiting_in g.R.DocumentRules.part_of (take (c.loop-queue.queue-index + 1) c.args.queues.now)) (waiting_in g.R.DocumentRules.part_of (drop (c.loop-queue.queue-index + 1) c.args.queues.now)) in
    let count : length (plain_commands g.R.DocumentRules.part_of (waiting c.queue-item.result)) ≡ length (waiting c.queue-item.result) = length-map (waiting c.queue-item.result) (plain_command g.R.DocumentRules.part_of) in
    let slice : length c.as_slice.result.now ≡ length (waiting c.queue-item.result) = ap length c.as_slice.ensures in
    omega (arith, more, front, count, slice, c.requires.room, c.loop-queue.invariant.place)

pub loop-queue-preserved : goal.loop-queue-preserved
loop-queue-preserved g c =
    let front = flat-more (λ one. plain_commands g.R.DocumentRules.part_of (waiting one)) c.args.queues.now c.loop-queue.queue-index c.queue-item.result c.loop-queue-test.true c.queue-item.is in
    let more : length (waiting_in g.R.DocumentRules.part_of (take (c.loop-queue.queue-index + 1) c.args.queues.now)) ≡ length (waiting_in g.R.DocumentRules.part_of (take c.loop-queue.queue-index c.args.queues.now)) + length (plain_commands g.R.DocumentRules.part_of (waiting c.queue-item.result)) =
    ap length front ∙ length-append (waiting_in g.R.DocumentRules.part_of (take c.loop-queue.queue-index c.args.queues.now)) (plain_commands g.R.DocumentRules.part_of (waiting c.queue-item.result)) in
    let count : length (plain_commands g.R.DocumentRules.part_of (waiting c.queue-item.result)) ≡ length (waiting c.queue-item.result) = length-map (waiting c.queue-item.result) (plain_command g.R.DocumentRules.part_of) in
    let handed : plain_commands g.R.DocumentRules.part_of c.as_slice.result.now ≡ plain_commands g.R.DocumentRules.part_of (waiting c.queue-item.result) = ap (plain_commands g.R.DocumentRules.part_of) c.as_slice.ensures in
    record {
      place = omega (arith, c.behind-place.ensures, c.loop-queue.invariant.place, more, count);
      ran = subst (λ commands. RunsTo (owning_in (kinds_of g.R.Value.SceneValue.places g.R.DocumentRules.part_of g.R.WorldRules.columns)) c.args.frame (c.args.earlier + 1) commands (plain_of (kinds_of g.R.Value.SceneValue.places g.R.DocumentRules.part_of g.R.WorldRules.columns) (seen_of c.args.world.now)) (plain_of (kinds_of g.R.Value.SceneValue.places g.R.DocumentRules.part_of g.R.WorldRules.columns) (seen_of c.act_all.new.world)) c.args.skips.now.items c.act_all.new.skips.items) (sym front)
          (joined-to (owning_in (kinds_of g.R.Value.SceneValue.places g.R.DocumentRules.part_of g.R.WorldRules.columns)) c.args.frame (c.args.earlier + 1) (c.loop-queue.place + 1) (waiting_in g.R.DocumentRules.part_of (take c.loop-queue.queue-index c.args.queues.now)) (plain_commands g.R.DocumentRules.part_of (waiting c.queue-item.result)) (plain_of (kinds_of g.R.Value.SceneValue.places g.R.DocumentRules.part_of g.R.WorldRules.columns) (seen_of c.args.world.now)) (plain_of (kinds_of g.R.Value.SceneValue.places g.R.DocumentRules.part_of g.R.WorldRules.columns) (seen_of c.loop-queue.world)) (plain_of (kinds_of g.R.Value.SceneValue.places g.R.DocumentRules.part_of g.R.WorldRules.columns) (seen_of c.act_all.new.world))
          c.args.skips.now.items c.loop-queue.skips.items c.act_all.new.skips.items (omega (arith, c.loop-queue.invariant.place)) c.loop-queue.invariant.ran
          (subst (λ commands. RunsTo (owning_in (kinds_of g.R.Value.SceneValue.places g.R.DocumentRules.part_of g.R.WorldRules.columns)) c.args.frame (c.loop-queue.place + 1) commands (plain_of (kinds_of g.R.Value.SceneValue.places g.R.DocumentRules.part_of g.R.WorldRules.columns) (seen_of c.loop-queue.world)) (plain_of (kinds_of g.R.Value.SceneValue.places g.R.DocumentRules.part_of g.R.WorldRules.columns) (seen_of c.act_all.new.world)) c.loop-queue.skips.items c.act_all.new.skips.items) handed c.in_ok-act_all.ensures.ran));
      may = c.in_ok-act_all.ensures.may;
      elsewhere = λ id e m a p. c.in_ok-act_all.ensures.elsewhere id e m a p ∙ c.loop-queue.invariant.elsewhere id e m a p;
      goes_on = goes-both (kinds_of g.R.Value.SceneValue.places g.R.DocumentRules.part_of g.R.WorldRules.columns) c.args.world.now c.loop-queue.world c.act_all.new.world c.loop-queue.invariant.goes_on c.in_ok-act_all.ensures.goes_on;
      covers = c.in_ok-act_all.ensures.covers;
      kept = (c.loop-queue.invariant.kept.0 ++ c.in_ok-act_all.ensures.kept.0, c.in_ok-act_all.ensures.kept.1 ∙ ap (λ skips. skips ++ c.in_ok-act_all.ensures.kept.0) c.loop-queue.invariant.kept.1 ∙ append_assoc c.args.skips.now.items c.loop-queue.invariant.kept.0 c.in_ok-act_all.ensures.kept.0);
    }

pub returns-clause-ran : goal.returns-clause-ran
returns-clause-ran g c =
    subst (λ queues. RunsTo (owning_in (kinds_of g.R.Value.SceneValue.places g.R.DocumentRules.part_of g.R.WorldRules.columns)) c.args.frame (c.args.earlier + 1) (waiting_in g.R.DocumentRules.part_of queues) (plain_of (kinds_of g.R.Value.SceneValue.places g.R.DocumentRules.part_of g.R.WorldRules.columns) (seen_of c.args.world.now)) (plain_of (kinds_of g.R.Value.SceneValue.places g.R.DocumentRules.part_of g.R.WorldRules.columns) (seen_of c.loop-queue.world)) c.args.skips.now.items c.loop-queue.skips.items)
    (take_all c.loop-queue.queue-index c.args.queues.now c.loop-queue-test.false) c.loop-queue.invariant.ran

pub returns-in_err-act_all-clause-refused : goal.returns-in_err-act_all-clause-refused
returns-in_err-act_all-clause-refused g c =
    let handed : plain_commands g.R.DocumentRules.part_of c.as_slice.result.now ≡ plain_commands g.R.DocumentRules.part_of (waiting c.queue-item.result) = ap (plain_commands g.R.DocumentRules.part_of) c.as_slice.ensures in
    let failed : c.from_residual.result ≡ Err c.in_err-act_all.field-0.0 = grind arith in
    rw failed (let whole : waiting_in g.R.DocumentRules.part_of c.args.queues.now ≡ (waiting_in g.R.DocumentRules.part_of (take c.loop-queue.queue-index c.args.queues.now) ++ plain_commands g.R.DocumentRules.part_of (waiting c.queue-item.result)) ++ waiting_in g.R.DocumentRules.part_of (drop (c.loop-queue.queue-index + 1) c.args.queues.now) =
    flat-front (λ one. plain_commands g.R.DocumentRules.part_of (waiting one)) c.args.queues.now (c.loop-queue.queue-index + 1) ∙ ap (λ first. first ++ waiting_in g.R.DocumentRules.part_of (drop (c.loop-queue.queue-index + 1) c.args.queues.now)) (flat-more (λ one. plain_commands g.R.DocumentRules.part_of (waiting one)) c.args.queues.now c.loop-queue.queue-index c.queue-item.result c.loop-queue-test.true c.queue-item.is) in
    subst (λ commands. RefusesActs (kinds_of g.R.Value.SceneValue.places g.R.DocumentRules.part_of g.R.WorldRules.columns) (c.args.earlier + 1) commands c.args.world.now c.in_err-act_all.field-0.0) (sym whole)
    (acts-before (kinds_of g.R.Value.SceneValue.places g.R.DocumentRules.part_of g.R.WorldRules.columns) (c.args.earlier + 1) (waiting_in g.R.DocumentRules.part_of (take c.loop-queue.queue-index c.args.queues.now) ++ plain_commands g.R.DocumentRules.part_of (waiting c.queue-item.result)) (waiting_in g.R.DocumentRules.part_of (drop (c.loop-queue.queue-index + 1) c.args.queues.now)) c.args.world.now c.in_err-act_all.field-0.0
    (acts-behind (kinds_of g.R.Value.SceneValue.places g.R.DocumentRules.part_of g.R.WorldRules.columns) c.args.frame (c.args.earlier + 1) (c.loop-queue.place + 1) (waiting_in g.R.DocumentRules.part_of (take c.loop-queue.queue-index c.args.queues.now)) (plain_commands g.R.DocumentRules.part_of (waiting c.queue-item.result)) c.args.world.now c.loop-queue.world c.args.skips.now.items c.loop-queue.skips.items c.in_err-act_all.field-0.0
    (omega (arith, c.loop-queue.invariant.place)) c.loop-queue.invariant.ran c.loop-queue.invariant.goes_on
    (subst (λ commands. RefusesActs (kinds_of g.R.Value.SceneValue.places g.R.DocumentRules.part_of g.R.WorldRules.columns) (c.loop-queue.place + 1) commands c.loop-queue.world c.in_err-act_all.field-0.0) handed c.in_err-act_all.ensures.refused))))

pub returns-in_err-act_all-clause-kept : goal.returns-in_err-act_all-clause-kept
returns-in_err-act_all-clause-kept g c = (c.loop-queue.invariant.kept.0 ++ c.in_err-act_all.ensures.kept.0, c.in_err-act_all.ensures.kept.1 ∙ ap (λ skips. skips ++ c.in_err-act_all.ensures.kept.0) c.loop-queue.invariant.kept.1 ∙ append_assoc c.args.skips.now.items c.loop-queue.invariant.kept.0 c.in_err-act_all.ensures.kept.0)

pub behind-place-requires : goal.behind-place-requires
behind-place-requires g c =
    let more : length (waiting_in g.R.DocumentRules.part_of (take (c.loop-queue.queue-index + 1) c.args.queues.now)) ≡ length (waiting_in g.R.DocumentRules.part_of (take c.loop-queue.queue-index c.args.queues.now)) + length (plain_commands g.R.DocumentRules.part_of (waiting c.queue-item.result)) =
    ap length (flat-more (λ one. plain_commands g.R.DocumentRules.part_of (waiting one)) c.args.queues.now c.loop-queue.queue-index c.queue-item.result c.loop-queue-test.true c.queue-item.is) ∙ length-append (waiting_in g.R.DocumentRules.part_of (take c.loop-queue.queue-index c.args.queues.now)) (plain_commands g.R.DocumentRules.part_of (waiting c.queue-item.result)) in
    let front : length (waiting_in g.R.DocumentRules.part_of c.args.queues.now) ≡ length (waiting_in g.R.DocumentRules.part_of (take (c.loop-queue.queue-index + 1) c.args.queues.now)) + length (waiting_in g.R.DocumentRules.part_of (drop (c.loop-queue.queue-index + 1) c.args.queues.now)) =
    ap length (flat-front (λ one. plain_commands g.R.DocumentRules.part_of (waiting one)) c.args.queues.now (c.loop-queue.queue-index + 1)) ∙ length-append (waiting_in g.R.DocumentRules.part_of (take (c.loop-queue.queue-index + 1) c.args.queues.now)) (waiting_in g.R.DocumentRules.part_of (drop (c.loop-queue.queue-index + 1) c.args.queues.now)) in
    let count : length (plain_commands g.R.DocumentRules.part_of (waiting c.queue-item.result)) ≡ length (waiting c.queue-item.result) = length-map (waiting c.queue-item.result) (plain_command g.R.DocumentRules.part_of) in
    omega (arith, more, front, count, c.requires.room, c.loop-queue.invariant.place)
