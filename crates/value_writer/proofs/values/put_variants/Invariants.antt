use Rattle.std.proofs.Common.{◌≡◌, ◌++◌, take}
use Rattle.std.specs.List.{flat_map}
use Rattle.value_writer.specs.Variants.{variant_text}
use Rattle.value_writer.proofs.values.put_variants.Given as goal

-- the lines of the kinds so far stand behind what was there
abbrev pub invariant-loop-kind : goal.invariant-loop-kind
invariant-loop-kind l = l.out.items ≡ l.initial.out.items ++ flat_map variant_text (take l.kind-index l.kinds)
