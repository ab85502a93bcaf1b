use Rattle.std.proofs.Common.{◌≡◌, List, map, length, ap, ◌∙◌, arith, [], subst}
use Rattle.shred_stages.specs.declared.turn.Staged.{Staged}
use Rattle.std.specs.Vec.Iter.{into_iter_items}
use Rattle.shred_stages.specs.Setups.{DisposesEach}
use Rattle.shred_stages.specs.Seats.{refusal_of}
use Rattle.shred_stages.proofs.DisposeLemmas.{dispose-next, dispose-end, empty-by-length}
use Rattle.shred_stages.proofs.setup.dispose_staged.Goals as goal

pub loop-system-preserved : goal.loop-system-preserved
loop-system-preserved g c = record {
  runs = dispose-next g.S.System.disposes (map (λ one. one.system) (into_iter_items c.into_iter-rest.result)) _ (λ one. one.system) (into_iter_items c.loop-system.rest) (into_iter_items c.next.new.self) c.in-Some.field-0
      c.loop-system.number _ _ _ _ _ _ c.loop-system.invariant.runs c.in-Some.ensures.items c.dispose_one.ensures.disposes c.dispose_one.ensures.number c.first_of-outcome.ensures;
  few = omega (arith, ap length c.in-Some.ensures.items, c.loop-system.invariant.few);
  long = omega (arith, ap length c.in-Some.ensures.items, c.loop-system.invariant.long, c.in-Some.ensures.len);
}

pub returns : goal.returns
returns g c =
    let P : List (Staged g.row.V.Denot g.row.S.Denot) → Type 0 = λ list. DisposesEach g.S.System.disposes 0 (map (λ one. one.system) list) (refusal_of c.loop-system.outcome) c.args.world.now c.loop-system.world in
    let none : into_iter_items c.loop-system.rest ≡ [] = empty-by-length (into_iter_items c.loop-system.rest) (c.loop-system.invariant.long ∙ c.in_default.ensures.cases.0) in
    subst P c.into_iter-rest.ensures.rest
    (dispose-end g.S.System.disposes (map (λ one. one.system) (into_iter_items c.into_iter-rest.result)) _ (λ one. one.system) (into_iter_items c.loop-system.rest) c.loop-system.number _ _ c.loop-system.invariant.runs none)
