use Rattle.std.proofs.Common.{◌≡◌, not, filter, take}
use Rattle.shred_plan.specs.Index.{stood_before}
use Rattle.shred_plan.proofs.firsts.Firsts.rest_of.Given as goal

abbrev pub invariant-loop-number : goal.invariant-loop-number
invariant-loop-number l = l.rest.items ≡ filter (λ number. not (stood_before l.self.stages number l.stage)) (take l.number-index l.numbers)
