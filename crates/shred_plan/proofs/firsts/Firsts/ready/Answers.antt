use Rattle.std.proofs.Common.{◌≡◌, Some, None, get_or, sym, ap, ◌∙◌}
use Rattle.std.specs.Option.{option_copied}
use Rattle.std.specs.Ordering.{nat_cmp}
use Rattle.std.specs.BTreeMap.{get}
use Rattle.shred_plan.proofs.TableLemmas.{ready-more, ready-never}
use Rattle.shred_plan.proofs.firsts.Firsts.ready.Goals as goal

pub returns-in_default : goal.returns-in_default
returns-in_default c = λ place small.
    let numbers = c.args.numbers.now in
    let i = c.loop-number.number-index in
    let stages = c.args.self.now.stages in
    let found : get nat_cmp stages (get_or numbers i 0) ≡ None = sym c.get.ensures.value ∙ ap option_copied c.in_default.is in
    ready-never stages numbers i place c.loop-number-test.true found

pub loop-number-preserved : goal.loop-number-preserved
loop-number-preserved c = λ place small.
    let numbers = c.args.numbers.now in
    let i = c.loop-number.number-index in
    let stages = c.args.self.now.stages in
    let first = c.in-Some.first.now in
    let found : get nat_cmp stages (get_or numbers i 0) ≡ Some first = sym c.get.ensures.value ∙ ap option_copied c.in-Some.is in
    ready-more stages numbers i c.loop-number.ready first c.saturating_add.result c.max-ready.result place c.loop-number-test.true found c.saturating_add.ensures c.max-ready.ensures small (c.loop-number.invariant place small)
