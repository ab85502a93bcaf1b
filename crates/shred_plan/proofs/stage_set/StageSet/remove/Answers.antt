use Rattle.std.proofs.Common.{◌≡◌, ◌<◌, ◌/◌, length, get_or, arith}
use Rattle.std.proofs.lemmas.List.{get_or_read}
use Rattle.shred_plan.proofs.StageSetLemmas.{is_in-remove}
use Rattle.shred_plan.proofs.stage_set.StageSet.remove.Goals as goal

pub returns-then-stage-len : goal.returns-then-stage-len
returns-then-stage-len c = λ place.
    let words = c.args.self.now.words.items in
    let stage = c.args.stage in
    let within : stage / 64 < length words = omega arith in
    let read : c.index_mut.result.now ≡ get_or words (stage / 64) 0 = get_or_read words (stage / 64) _ within c.index_mut.ensures.value 0 in
    rw read (is_in-remove words stage place within)
