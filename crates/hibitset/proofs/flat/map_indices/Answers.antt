use Rattle.std.proofs.Common.{ap, ◌∙◌, subst}
use Rattle.std.specs.List.{AllZip}
use Rattle.rayon.proofs.ToStd.{slice-AllZip}
use Rattle.hibitset.proofs.FoldLemmas.{if_ok, zip-map}
use Rattle.hibitset.proofs.flat.map_indices.Goals as goal

pub returns-clause-each : goal.returns-clause-each
returns-clause-each g c =
    let slice = ap (λ it. it.slice.now) c.map.ensures.base ∙ c.par_iter.ensures in
    if_ok c.collect.result c.collect.ensures (λ v h.
    let chain = h.1 in
    subst (λ f. AllZip (λ i t. goal.F-post g f i t) c.args.indices.now v.items) (ap (λ call. call.0.now) c.map.ensures.f)
    (rw h.2 (slice-AllZip chain.0 c.args.indices.now (chain.1 ∙ slice) (λ i t. goal.F-post g c.map.result.f.0.now i t) h.0 chain.2)))

pub returns-clause-plain : goal.returns-clause-plain
returns-clause-plain g c = λ answer determined. if_ok c.collect.result (returns-clause-each g c) (λ v each. zip-map _ answer determined c.args.indices.now v.items each)
