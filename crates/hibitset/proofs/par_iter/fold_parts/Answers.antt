use Rattle.std.proofs.Common.{subst, sym, slice_index_or, rules}
use Rattle.hibitset.specs.Folds.{FoldsFromStart}
use Rattle.hibitset.specs.Producer.{items_of}
use Rattle.hibitset.proofs.FoldLemmas.{if_ok_both, zip-places}
use Rattle.hibitset.proofs.par_iter.fold_parts.Goals as goal

pub returns-clause-each : goal.returns-clause-each
returns-clause-each g c = if_ok_both c.map_vec.result c.map_vec.ensures.len c.map_vec.ensures.each (λ v len gives.
    zip-places _ c.args.parts.items v.items (search rules) (λ i p d low.
    let job = (gives i d low).1 in
    let is = job.job_is p in
    subst (λ x. FoldsFromStart (λ a. goal.I-post g c.args.start.now a) (λ a i b. goal.F-post g c.args.step.now a i b) (items_of g.T.BitSetLike.members x) (slice_index_or v.items i d)) (sym is)
    (let call = job.call in search rules)))
