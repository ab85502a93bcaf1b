use Rattle.std.proofs.Common.{◌≡◌, ◌++◌, take}
use Rattle.std.specs.Prelude.{codes, decimal, string_bytes}
use Rattle.std.specs.List.{flat_map}
use Rattle.shred_plan.proofs.text.print_group.Given as goal

abbrev pub invariant-loop-system : goal.invariant-loop-system
invariant-loop-system g l = string_bytes l.text ≡ string_bytes l.initial.text ++ flat_map (λ other. codes ", " ++ decimal other.number) (take l.system-index l.others)
