use Rattle.std.proofs.Common.{◌≡◌, subst, sym, refl, [], append-nil, arith}
use Rattle.std.specs.Vec.Iter.{into_iter_items}
use Rattle.hibitset.specs.Split.{AreJoined}
use Rattle.hibitset.proofs.FoldLemmas.{nil-from-length}
use Rattle.hibitset.proofs.par_iter.join_all.Goals as goal

pub returns : goal.returns
returns c =
    let ended = c.in_default.ensures.cases in
    let long = c.loop-list.rest.rest.ok in
    let empty : into_iter_items c.loop-list.rest ≡ [] = nil-from-length _ (omega arith) in
    subst (AreJoined c.args.lists.items) (append-nil c.loop-list.all.items) (c.loop-list.invariant [] (subst (λ lists. AreJoined lists []) (sym empty) refl))
