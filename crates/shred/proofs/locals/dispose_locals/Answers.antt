use Rattle.std.proofs.Common.{◌≡◌, List, map, length, ap, ◌∙◌, arith, [], subst}
use Rattle.std.specs.Vec.Iter.{into_iter_items}
use Rattle.shred_stages.specs.Setups.{DisposesEach}
use Rattle.shred.specs.Dispatching.{local_refusal}
use Rattle.shred_stages.proofs.CallerLemmas.{dispose-next, dispose-end, empty-by-length, map-itself}
use Rattle.shred.proofs.locals.dispose_locals.Goals as goal

pub loop-local-preserved : goal.loop-local-preserved
loop-local-preserved g c = record {
  runs = dispose-next g.L.RunNow.disposes (map (λ x. x) (into_iter_items c.into_iter-rest.result)) _ (λ x. x) (into_iter_items c.loop-local.rest) (into_iter_items c.next.new.self) c.in-Some.local
      c.loop-local.place _ _ _ _ _ _ c.loop-local.invariant.runs c.in-Some.ensures.items c.dispose_local.ensures.disposes c.dispose_local.ensures.place c.first_local-outcome.ensures;
  few = omega (arith, c.loop-local.invariant.few, c.in-Some.ensures.len);
  long = omega (arith, ap length c.in-Some.ensures.items, c.loop-local.invariant.long, c.in-Some.ensures.len);
}

pub returns : goal.returns
returns g c =
    let P : List g.row.L.Denot → Type 0 = λ list. DisposesEach g.L.RunNow.disposes 0 list (local_refusal c.loop-local.outcome) c.args.world.now c.loop-local.world in
    let none : into_iter_items c.loop-local.rest ≡ [] = empty-by-length (into_iter_items c.loop-local.rest) (c.loop-local.invariant.long ∙ c.in_default.ensures.cases.0) in
    subst P (map-itself (into_iter_items c.into_iter-rest.result) ∙ c.into_iter-rest.ensures.rest)
    (dispose-end g.L.RunNow.disposes (map (λ x. x) (into_iter_items c.into_iter-rest.result)) _ (λ x. x) (into_iter_items c.loop-local.rest) c.loop-local.place _ _ c.loop-local.invariant.runs none)
