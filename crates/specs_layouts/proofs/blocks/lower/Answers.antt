use Rattle.std.proofs.Common.{◌≡◌, ◌+◌, ◌<◌, suc, length, set, get_or, arith, ap, ◌∙◌}
use Rattle.std.proofs.lemmas.List.{length-set}
use Rattle.specs_layouts.specs.Blocks.{less}
use Rattle.specs_layouts.specs.declared.blocks.Place.{Place}
use Rattle.specs_layouts.proofs.PlaceSteps.{first_through, through-more, through-all}
use Rattle.specs_layouts.proofs.blocks.lower.Goals as goal

pub loop-i-preserved : goal.loop-i-preserved
loop-i-preserved c =
    let by = c.args.by in
    let i = c.loop-i.i in
    let before = c.args.places.now.items in
    let now = c.loop-i.places.items in
    let d = c.index-place.result.now in
    let less_place : Place = record { block = c.saturating_sub.result; event = c.saturating_sub-in-loop-i.result } in
    let within : i < length before = omega (arith, c.loop-i-test.true, c.len-i-end.ensures) in
    let next : suc i ≡ i + 1 = omega (arith) in
    let is : less_place ≡ less by d = (λ j. record { block = c.saturating_sub.ensures j; event = c.saturating_sub-in-loop-i.ensures j }) in
    record {
      first =
          ap (λ place. set now i place) (is ∙ ap (less by) c.index-place.ensures)
          ∙ (ap (λ places. set places i (less by (get_or places i d))) c.loop-i.invariant.first
          ∙ (through-more (less by) i before d within ∙ ap (λ k. first_through (less by) k before) next));
      len = length-set now i less_place ∙ c.loop-i.invariant.len;
    }

pub returns : goal.returns
returns c =
    let end : c.loop-i.i ≡ length c.args.places.now.items = omega (arith, c.loop-i-test.false, c.loop-i.auto.i-end, c.len-i-end.ensures) in
    c.loop-i.invariant.first ∙ (ap (λ k. first_through (less c.args.by) k c.args.places.now.items) end ∙ through-all (less c.args.by) c.args.places.now.items)
