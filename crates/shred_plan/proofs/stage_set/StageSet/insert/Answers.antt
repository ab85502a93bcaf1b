use Rattle.std.proofs.Common.{◌≡◌, ◌<◌, ◌/◌, ◌||◌, length, get_or, ap, ◌∙◌, arith}
use Rattle.std.specs.Prelude.{◌==◌}
use Rattle.std.proofs.lemmas.List.{get_or_read}
use Rattle.shred_plan.proofs.StageSetLemmas.{is_in-insert, is_in-same}
use Rattle.shred_plan.proofs.stage_set.StageSet.insert.Goals as goal

pub returns : goal.returns
returns c = λ place.
    let words = c.grow.new.self.words.items in
    let stage = c.args.stage in
    let within : stage / 64 < length words = omega (arith, c.in_ok-grow.ensures.ok) in
    let read : c.index_mut.result.now ≡ get_or words (stage / 64) 0 = get_or_read words (stage / 64) _ within c.index_mut.ensures.value 0 in
    rw read (is_in-insert words stage place within) ∙ ap (λ b. b || (stage == place)) (is_in-same words c.args.self.now.words.items c.in_ok-grow.ensures.same place)
