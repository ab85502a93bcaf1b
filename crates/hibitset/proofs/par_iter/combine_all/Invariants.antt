use Rattle.std.specs.List.{FoldsTo}
use Rattle.std.specs.Vec.Iter.{into_iter_items, into_iter_len}
use Rattle.hibitset.proofs.par_iter.combine_all.Given as goal

abbrev pub invariant-loop-next : goal.invariant-loop-next
invariant-loop-next g l =
    (last : _) → FoldsTo (λ a b c. goal.C-post g l.combine a b c) l.all (into_iter_items l.rest) last → FoldsTo (λ a b c. goal.C-post g l.combine a b c) l.initial.all (into_iter_items l.initial.rest) last

abbrev pub decreases-loop-next : goal.decreases-loop-next
decreases-loop-next g l = into_iter_len l.rest
