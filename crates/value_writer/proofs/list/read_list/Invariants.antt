use Rattle.value_writer.specs.Variants.{HaveOwnNames}
use Rattle.value_writer.proofs.list.read_list.Given as goal

-- the kinds so far have names of their own
abbrev pub invariant-loop-line : goal.invariant-loop-line
invariant-loop-line l = HaveOwnNames l.list.kinds.items
