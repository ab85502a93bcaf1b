use Rattle.std.specs.List.{FoldsTo}
use Rattle.hibitset_sets.specs.Iter.{left_of}
use Rattle.hibitset.specs.Producer.{items_of}
use Rattle.hibitset.proofs.producer.fold_items.Given as goal

abbrev pub invariant-loop-i : goal.invariant-loop-i
invariant-loop-i g l =
    (last : _) → FoldsTo (λ a i b. goal.F-post g l.f a i b) l.folded (left_of (λ s. g.T.BitSetLike.members s.now) l.walk) last
    → FoldsTo (λ a i b. goal.F-post g l.f a i b) l.fn.start (items_of g.T.BitSetLike.members l.fn.producer) last
