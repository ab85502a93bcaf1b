use Rattle.std.proofs.Common.{◌≢◌, ℕ, ◌<◌, get_or}
use Rattle.value_writer.specs.declared.kind.Kind.{Kind}
use Rattle.value_writer.proofs.list.has_name.Given as goal

-- no kind so far has the name
abbrev pub invariant-loop-kind : goal.invariant-loop-kind
invariant-loop-kind l = (k : ℕ) (d : Kind) → k < l.kind-index → (get_or l.kinds k d).name.now ≢ l.name
