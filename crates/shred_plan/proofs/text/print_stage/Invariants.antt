use Rattle.std.proofs.Common.{◌≡◌, ◌++◌, take}
use Rattle.std.specs.Prelude.{codes, string_bytes}
use Rattle.std.specs.List.{flat_map}
use Rattle.shred_plan.specs.PlanText.{group_text}
use Rattle.shred_plan.proofs.text.print_stage.Given as goal

abbrev pub invariant-loop-group : goal.invariant-loop-group
invariant-loop-group g l = string_bytes l.text ≡ string_bytes l.initial.text ++ flat_map (λ other. codes " | " ++ group_text other) (take l.group-index l.others)
