use Rattle.std.proofs.Common.{◌≡◌, ℕ, ◌^◌, ◌<◌, nat_le, take}
use Rattle.std.specs.List.{list_all}
use Rattle.shred_plan.specs.Index.{stood_before}
use Rattle.shred_plan.proofs.firsts.Firsts.ready.Given as goal

abbrev pub invariant-loop-number : goal.invariant-loop-number
invariant-loop-number l = (place : ℕ) → place < 2 ^ 63 → list_all (λ number. stood_before l.self.stages number place) (take l.number-index l.numbers) ≡ nat_le l.ready place
