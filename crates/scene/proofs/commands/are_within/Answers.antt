use Rattle.std.proofs.Common.{◌≡◌, ◌+◌, length, take, ap, arith}
use Rattle.std.specs.List.{flat_map}
use Rattle.std.proofs.lemmas.List.{take_all}
use Rattle.scene_model.specs.Queues.{waiting}
use Rattle.scene.proofs.CountLemmas.{same-count, count-more, count-front}
use Rattle.scene.proofs.commands.are_within.Goals as goal

pub loop-queue-init : goal.loop-queue-init
loop-queue-init g c = omega (arith, c.if-given-limit.false)

pub returns-then-len-left-clause-over : goal.returns-then-len-left-clause-over
returns-then-len-left-clause-over g c = λ part_of is.
    let same = same-count part_of c.args.queues.now in
    let more = count-more c.args.queues.now c.loop-queue.queue-index c.queue-item.result c.loop-queue-test.true c.queue-item.is in
    let front = count-front c.args.queues.now (c.loop-queue.queue-index + 1) in
    omega (arith, same, more, front, c.loop-queue.invariant, c.if-len-left.true, c.len.ensures.value)

pub loop-queue-preserved : goal.loop-queue-preserved
loop-queue-preserved g c =
    let more = count-more c.args.queues.now c.loop-queue.queue-index c.queue-item.result c.loop-queue-test.true c.queue-item.is in
    omega (arith, more, c.loop-queue.invariant, c.if-len-left.false, c.len.ensures.value, c.len-left.ensures.value)

pub returns-clause-within : goal.returns-clause-within
returns-clause-within g c = λ part_of is.
    let same = same-count part_of c.args.queues.now in
    let all : length (flat_map (λ queue. waiting queue) (take c.loop-queue.queue-index c.args.queues.now)) ≡ length (flat_map (λ queue. waiting queue) c.args.queues.now) =
    ap (λ queues. length (flat_map (λ queue. waiting queue) queues)) (take_all c.loop-queue.queue-index c.args.queues.now c.loop-queue-test.false) in
    omega (arith, same, all, c.loop-queue.invariant)
