use Rattle.std.proofs.Common.{◌≡◌, ◌<◌, ◌≤◌, length, get_or, arith}
use Rattle.std.proofs.lemmas.List.{get_or_read, length-set}
use Rattle.shred_plan.proofs.StageSetLemmas.{united}
use Rattle.shred_plan.proofs.stage_set.StageSet.unite.Goals as goal

pub loop-place-preserved : goal.loop-place-preserved
loop-place-preserved c =
    let others = c.args.other.now.words.items in
    let words = c.loop-place.self.words.items in
    let place = c.loop-place.place in
    let room : length others ≤ length words = c.loop-place.invariant.0 in
    let within : place < length others = rw c.deref-word-items.ensures.value at c.loop-place-test.true in
    let read : c.index_mut.result.now ≡ get_or words place 0 = get_or_read words place _ (omega arith) c.index_mut.ensures.value 0 in
    rw (c.deref-word-items.ensures.value, read, length-set) (room, united words c.args.self.now.words.items others place within room c.loop-place.invariant.1)
